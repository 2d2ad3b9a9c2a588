-- The loop's invariant: the waits of the first t transitions stand in their entries.
use native.Mathlib.Omega.{arith}
use Rattle.report_graph.proofs.Waiting.{summing_more, summing_none, summing_waited}
use Rattle.report_graph.proofs.waits.every_wait.Goals as goal

pub loop-t-init : goal.loop-t-init
loop-t-init c = summing_none _

pub wait_sum-requires : goal.wait_sum-requires
wait_sum-requires c =
    record { joined = c.requires.joined; long = omega (arith, c.args.g.now.wired.operations, c.args.g.now.wired.edges); transition = omega arith }

pub loop-t-preserved : goal.loop-t-preserved
loop-t-preserved c = summing_more c.loop-t.waits (omega arith) c.loop-t.invariant c.wait_sum.ensures

pub returns : goal.returns
returns c = summing_waited (omega arith) c.loop-t.invariant c.loop-t.auto.waits
