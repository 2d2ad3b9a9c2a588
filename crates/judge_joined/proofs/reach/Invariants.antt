-- Each pass but the last marks a node, so the unmarked ones get fewer; after the last, every edge is even.
use Rattle.judge_joined.specs.helpers.Spreading.{Reached, missing}
use Rattle.judge_joined.proofs.reach.Given as goal

abbrev pub invariant-loop : goal.invariant-loop
invariant-loop l = Reached l.g.edges l.g.from.now l.g.to.now l.seen

abbrev pub decreases-loop : goal.decreases-loop
decreases-loop l = missing l.seen
