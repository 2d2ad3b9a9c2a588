-- `sweep` raises edge by edge: what holds after the first k edges holds after one more.
use Rattle.net.specs.helpers.Tables.{accepted_over}
use Rattle.paths_finish.specs.helpers.Finishing.{EdgesSwept}
use Rattle.paths_finish.proofs.sweep.Given as goal

abbrev pub invariant-loop-k : goal.invariant-loop-k
invariant-loop-k l = accepted_over EdgesSwept l.g l.k l.initial.finish l.finish l.changed
