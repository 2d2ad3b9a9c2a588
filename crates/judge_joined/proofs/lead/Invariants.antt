-- Whatever order the edges come in, what is marked is joined, and no mark is lost.
use Rattle.judge_joined.specs.helpers.Spreading.{Led}
use Rattle.judge_joined.proofs.lead.Given as goal

abbrev pub invariant-loop-k : goal.invariant-loop-k
invariant-loop-k l = Led l.g.edges l.g.from.now l.g.to.now l.initial.seen l.seen
