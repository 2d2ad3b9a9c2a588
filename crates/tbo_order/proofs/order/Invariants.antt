-- The invariant: between passes no item is lost.
use Rattle.tbo_order.specs.helpers.Items.{Sorting}
use Rattle.tbo_order.proofs.order.Given as goal

abbrev pub invariant-loop-l : goal.invariant-loop-l
invariant-loop-l l = Sorting l.g.operations l.g.edges l.left l.ord 0 l.l 0 l.c

abbrev pub decreases-loop-l : goal.decreases-loop-l
decreases-loop-l l = l.l
