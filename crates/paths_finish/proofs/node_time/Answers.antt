-- One law for each kind of node.
use mathlib.Core.Path.{sym}
use native.Mathlib.Omega.{arith}
use Rattle.net.specs.Plan.{time_at}
use Rattle.paths_finish.proofs.Links.{time_operation, time_sink, time_source}
use Rattle.paths_finish.proofs.node_time.Goals.{else-v-gt0-via-else-v-gt0, else-v-gt0-via-then-v-gt0+else-v-g}
use Rattle.paths_finish.proofs.node_time.Goals as goal

pub returns-then-v-g : goal.returns-then-v-g
returns-then-v-g c = sym (time_operation c.args.g.now.plotted.wiring.operations (time_at c.args.g.now.times.now) c.args.v (omega arith) (omega arith))

pub returns-else-v-gt0 : goal.returns-else-v-gt0
returns-else-v-gt0 c = elim c.else-v-gt0.branch [
  | else-v-gt0-via-then-v-gt0+else-v-g w ↦ sym (time_sink c.args.g.now.plotted.wiring.operations (time_at c.args.g.now.times.now) c.args.v (omega arith))
  | else-v-gt0-via-else-v-gt0 w ↦ sym (time_source c.args.g.now.plotted.wiring.operations (time_at c.args.g.now.times.now) c.args.v (omega arith))
]
