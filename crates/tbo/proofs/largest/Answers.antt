-- The invariant: the best rate has the time and the tokens of a closed walk. Each better one comes nearer to the largest that can be.
use native.Mathlib.Omega.{arith}
use lib.ListN.{length}
use Rattle.marked.proofs.Fresh.{zeros}
use Rattle.tbo.proofs.Attained.{improves_better, largest_by, nearer_of}
use Rattle.tbo.proofs.largest.Goals as goal

pub loop-better-init : goal.loop-better-init
loop-better-init c = c.ring-best.ensures

pub improve-requires-clause-level : goal.improve-requires-clause-level
improve-requires-clause-level c = record { low = λ v. rw (c.fill.ensures.after (λ y e. e)) (omega (arith, zeros (length c.loop-better.d) v)); long = omega arith }

pub returns-in_default : goal.returns-in_default
returns-in_default c =
    largest_by c.args.g.now.weighted c.loop-better.invariant c.requires.live c.improve.ensures c.in_default.is

pub loop-better-smaller : goal.loop-better-smaller
loop-better-smaller c =
    nearer_of c.args.g.now.weighted c.loop-better.invariant c.requires.live c.improve.ensures c.in-Some.is

pub loop-better-preserved : goal.loop-better-preserved
loop-better-preserved c = (improves_better c.improve.ensures.improves c.in-Some.is).0
