-- `lift` raises the entry where it is lower, and else keeps the array.
use native.Mathlib.Omega.{arith}
use Rattle.paths_finish.specs.helpers.Finishing.{kept, lifted}
use Rattle.paths_finish.proofs.lift.Goals as goal

pub returns-then-finish-v : goal.returns-then-finish-v
returns-then-finish-v c = lifted (omega arith)

pub returns-else-finish-v : goal.returns-else-finish-v
returns-else-finish-v c = kept (omega arith)
