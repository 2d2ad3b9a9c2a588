-- `sweep` raises edge by edge: what holds after the first k edges holds after one more.
use Rattle.paths_finish.proofs.Sweeps.{swept_more}
use native.Mathlib.Omega.{arith}
use Rattle.paths_finish.proofs.sweep.Goals as goal

pub loop-k-preserved : goal.loop-k-preserved
loop-k-preserved c = swept_more (omega arith) c.loop-k.invariant c.raise-changed.ensures
