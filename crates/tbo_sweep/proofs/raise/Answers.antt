-- Either branch is a case of `Raised`, with the gain and the cost as they were weighed.
use mathlib.Core.Path.{refl}
use native.Mathlib.Omega.{arith}
use Rattle.std.specs.Prelude.{None, Some}
use Rattle.tbo_sweep.proofs.Sweeping.{raised_as}
use Rattle.tbo_sweep.specs.helpers.Raises.Raised.{kept, raised}
use Rattle.tbo_sweep.proofs.raise.Goals as goal

pub returns-then-d-t : goal.returns-then-d-t
returns-then-d-t c =
    record { own = Some c.args.t; raised = raised_as c.gain.ensures.0 c.cost-cost.ensures.0 (raised (omega arith) (omega arith) (omega arith)); last = refl }

pub returns : goal.returns
returns c = record { own = None; raised = raised_as c.gain.ensures.0 c.cost-cost.ensures.0 (kept (omega arith)); last = refl }
