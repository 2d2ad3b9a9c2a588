-- `run_rows`: what is left to run gives what the whole run gives.
use native.Mathlib.Omega.{arith}
use Rattle.running.proofs.Runs.{going_ends, going_on, going_stops}
use Rattle.running.proofs.repeat.run_rows.Goals as goal

pub returns-in-Err : goal.returns-in-Err
returns-in-Err c = going_stops c.loop.invariant c.entry.ensures c.in-Err.is

pub loop-preserved : goal.loop-preserved
loop-preserved c = going_on c.loop.invariant c.entry.ensures c.in_default.is

pub returns : goal.returns
returns c = going_ends c.loop.invariant (omega arith)
