-- The two arrays of marks say of each node whether it is linked; the nodes before the one at hand are.
use native.Mathlib.Omega.{arith}
use borrow.Author.Count.{below_more}
use Rattle.refusal.proofs.Answers.{denied, said}
use Rattle.judge_links.proofs.Ticking.{bound_linked, linked_bound}
use Rattle.judge_links.proofs.first_bare.Goals as goal

pub returns-then-not-bound : goal.returns-then-not-bound
returns-then-not-bound c =
    record {
      place = omega arith;
      broken = λ h. denied c.bound.ensures c.if-not-bound.true (linked_bound c.tick-out.ensures c.tick-into.ensures h);
      lower = c.loop-node.invariant;
    }

pub loop-node-preserved : goal.loop-node-preserved
loop-node-preserved c =
    let bound = said c.bound.ensures c.if-not-bound.false in
    below_more _ _ c.loop-node.invariant (λ n. bound_linked c.tick-out.ensures c.tick-into.ensures bound)
