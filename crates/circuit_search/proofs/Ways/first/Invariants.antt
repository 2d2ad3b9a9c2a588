-- The invariant: no listed place below p has a way back.
use Rattle.circuit_tight.specs.helpers.Entries.{sources, targets}
use Rattle.circuit_search.proofs.Endings.{Missed}
use Rattle.circuit_search.proofs.Ways.first.Given as goal

abbrev pub invariant-loop-p : goal.invariant-loop-p
invariant-loop-p l = Missed l.self.transitions l.self.places (sources l.self.lists.now.entries) (targets l.self.lists.now.entries) l.p l.via
