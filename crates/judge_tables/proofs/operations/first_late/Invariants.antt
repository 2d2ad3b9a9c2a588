-- The operations before the one at hand have their times within the limits.
use Rattle.net.specs.Rules.{Operation, Timely}
use Rattle.net.specs.Plan.{rows}
use mathlib.Core.List.{[]}
use Prim.Native.Nat.{ℕ, ◌≤◌}
use Rattle.judge_tables.proofs.operations.first_late.Given as goal

abbrev pub invariant-loop-row : goal.invariant-loop-row
invariant-loop-row l = (y : ℕ) → y ≤ l.row → Operation (rows l.n 0 l.times [] [] [] []) y → Timely (rows l.n 0 l.times [] [] [] []) y
