-- The invariant: the places behind x stand in the buffer from k on.
use Rattle.circuit_tight.specs.helpers.Entries.{sources, targets}
use Rattle.circuit.proofs.Fills.{Fill}
use Rattle.circuit.proofs.write.hand_out.Given as goal

abbrev pub invariant-loop-x : goal.invariant-loop-x
invariant-loop-x l = Fill l.w.transitions l.w.places (sources l.w.lists.now.entries) (targets l.w.lists.now.entries) l.root l.goal l.via l.initial.ring l.ring l.x l.k l.len

abbrev pub decreases-loop-x : goal.decreases-loop-x
decreases-loop-x l = l.k
