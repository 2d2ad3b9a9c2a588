-- Each record takes the position further, and it stays within the input. Where the copy was the input, it still is from there on, and what is written of
-- the records from there on goes on from what is written.
use Rattle.std.proofs.Common.{◌≡◌, ◌-◌, ◌≤◌, List, ℕ, length, drop}
use Rattle.std.specs.declared.option.Option.{Option}
use Rattle.records.specs.Parts.{Twice}
use Rattle.records.specs.Records.{Lines}
use Rattle.records.proofs.each.Given as goal

abbrev pub invariant-loop-at : goal.invariant-loop-at
invariant-loop-at g l = Twice l.s l.copy × (l.at ≤ length l.s)
    × (l.initial.copy ≡ l.s → (drop l.at l.copy ≡ drop l.at l.s)
    × ((end : Option (List ℕ)) → Lines l.s l.at (g.W.Write.contents l.output) end → Lines l.s 0 (g.W.Write.contents l.fn.output) end))

abbrev pub decreases-loop-at : goal.decreases-loop-at
decreases-loop-at g l = length l.s - l.at
