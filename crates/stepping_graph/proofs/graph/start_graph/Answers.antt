-- The length first: `unfit`, else `filled`.
use native.Mathlib.Omega.{arith}
use Rattle.stepping_graph.specs.helpers.Work.GraphStarted.{filled, unfit}
use Rattle.stepping_graph.proofs.graph.start_graph.Goals as goal

pub returns-then-marking-places : goal.returns-then-marking-places
returns-then-marking-places c = rw c.refuse.ensures (unfit (λ e. omega arith))

pub returns : goal.returns
returns c = filled (omega arith) c.start_marking.ensures
