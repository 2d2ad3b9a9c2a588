-- What the edges so far have done to the marks, one edge more a turn.
use Rattle.judge_joined.specs.helpers.Spreading.{Passed}
use Rattle.judge_joined.proofs.pass.Given as goal

abbrev pub invariant-loop-k : goal.invariant-loop-k
invariant-loop-k l = Passed l.g.edges l.g.from.now l.g.to.now l.k l.initial.seen l.seen l.changed
