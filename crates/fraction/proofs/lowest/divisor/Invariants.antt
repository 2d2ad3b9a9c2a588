-- The invariant: x and y have in common what a and b have.
use Rattle.fraction.proofs.Euclid.{Common}
use Rattle.fraction.proofs.lowest.divisor.Given as goal

abbrev pub invariant-loop-y : goal.invariant-loop-y
invariant-loop-y l = Common l.a l.b l.x l.y

abbrev pub decreases-loop-y : goal.decreases-loop-y
decreases-loop-y l = l.y
