-- The invariant: x and y have in common what a and b have.
use native.Mathlib.Omega.{arith}
use native.Mathlib.Nat.{mod-lt}
use Rattle.fraction.proofs.Euclid.{common_end, common_on, common_start}
use Rattle.fraction.proofs.lowest.divisor.Goals as goal

pub loop-y-init : goal.loop-y-init
loop-y-init c = common_start c.requires

pub loop-y-smaller : goal.loop-y-smaller
loop-y-smaller c = mod-lt c.loop-y.x (omega arith)

pub loop-y-preserved : goal.loop-y-preserved
loop-y-preserved c = common_on c.loop-y.invariant (omega arith)

pub returns : goal.returns
returns c = common_end c.loop-y.invariant c.loop-y-test.false
