-- The invariant: the search stands at x. What is left to try falls with each move.
use Rattle.circuit_tight.specs.helpers.Entries.{sources, targets}
use Rattle.circuit_search.specs.helpers.Turns.{Under}
use Rattle.circuit_search.proofs.Endings.{left}
use Rattle.circuit_search.proofs.Ways.search.Given as goal

abbrev pub invariant-loop-y : goal.invariant-loop-y
invariant-loop-y l = Under l.self.transitions l.self.places (sources l.self.lists.now.entries) (targets l.self.lists.now.entries) l.root l.goal l.seen l.via l.cur l.x

abbrev pub decreases-loop-y : goal.decreases-loop-y
decreases-loop-y l = left l.self.places l.cur
