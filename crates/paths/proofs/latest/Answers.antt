-- `latest` compares edge by edge: what it has is the largest entry among the sinks seen.
use Rattle.paths.proofs.Sinks.{latest_marked, latest_unmarked}
use native.Mathlib.Omega.{arith}
use Rattle.paths.proofs.latest.Goals.{else-g-k-ne0, then-g-k-ne0}
use Rattle.paths.proofs.latest.Goals as goal

pub loop-k-preserved : goal.loop-k-preserved
loop-k-preserved c = elim c.if-g-k-ne0.branch [
  | then-g-k-ne0 w ↦ rw (w.most-is, w.max-most.ensures) (latest_marked c.loop-k.invariant (omega arith) w.from.ensures)
  | else-g-k-ne0 w ↦ rw w.most-is (latest_unmarked c.loop-k.invariant w.if-g-k-ne0.false)
]
