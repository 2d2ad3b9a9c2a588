-- The last pass marked nothing, whichever it was.
use Rattle.judge_joined.proofs.Reaching.{marked_all, reached_start}
use Rattle.judge_joined.proofs.reach.Goals.{else-pass-via-then-pass+else-pass-2, else-pass-via-else-pass}
use Rattle.judge_joined.proofs.reach.Goals as goal

pub pass-requires : goal.pass-requires
pass-requires c = reached_start

pub returns-after-loop : goal.returns-after-loop
returns-after-loop c = marked_all c.loop-test.false c.pass-in-loop.ensures

pub returns-else-pass : goal.returns-else-pass
returns-else-pass c = elim c.else-pass.branch [
  | else-pass-via-then-pass+else-pass-2 w ↦ rw w.seen-is (marked_all w.if-pass-2.false w.pass-then-pass.ensures)
  | else-pass-via-else-pass w ↦ rw w.seen-is (marked_all w.if-pass.false c.pass.ensures)
]
