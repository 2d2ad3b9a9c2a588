-- The invariant: the first i items stand in left.
use Rattle.tbo_order.specs.helpers.Items.{Enlisted}
use Rattle.tbo_order.proofs.enlist.Given as goal

abbrev pub invariant-loop-i : goal.invariant-loop-i
invariant-loop-i l = Enlisted l.g.operations l.g.edges l.i l.left
