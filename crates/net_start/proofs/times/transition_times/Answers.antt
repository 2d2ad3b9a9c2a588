-- The invariant: the transitions before row i's process have their times.
use Rattle.net_start.proofs.Timing.{timed_none, timed_on}
use native.Mathlib.Omega.{arith}
use Rattle.net_start.proofs.times.transition_times.Goals as goal

pub loop-i-init : goal.loop-i-init
loop-i-init c = timed_none c.args.g.now.times.now

pub loop-i-preserved : goal.loop-i-preserved
loop-i-preserved c = timed_on (omega arith) c.loop-i.invariant
