-- The invariant: the transitions before row i's process have their times.
use Rattle.net_start.proofs.Timing.{TimedTo}
use Rattle.net_start.proofs.times.transition_times.Given as goal

abbrev pub invariant-loop-i : goal.invariant-loop-i
invariant-loop-i l = TimedTo l.g.times.now l.i l.out
