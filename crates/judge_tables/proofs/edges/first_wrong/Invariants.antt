-- The edges before the one at hand are allowed.
use Rattle.net.specs.Rules.{Allowed, Edge}
use Rattle.net.specs.Plan.{rows}
use mathlib.Core.List.{[]}
use Prim.Native.Nat.{ℕ, ◌<◌}
use Rattle.judge_tables.proofs.edges.first_wrong.Given as goal

abbrev pub invariant-loop-k : goal.invariant-loop-k
invariant-loop-k l = (y : ℕ) → y < l.k → Edge (rows l.n l.e [] l.from l.to l.mark l.buffers) y → Allowed (rows l.n l.e [] l.from l.to l.mark l.buffers) y
