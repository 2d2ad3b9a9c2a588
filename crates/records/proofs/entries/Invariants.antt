-- The first k entries are read.
use Rattle.std.proofs.Common.{◌≡◌, length, take}
use Rattle.records.specs.Parts.{words}
use Rattle.records.proofs.entries.Given as goal

abbrev pub invariant-loop-k : goal.invariant-loop-k
invariant-loop-k l = (length l.out ≡ 30000) × (take l.k l.out ≡ take l.k (words l.s))
