-- Row 12, then the sum: `answers_12`, `answers_wait`. (Rows 10 and 11 come first: `answers_row`.)
use native.Mathlib.Omega.{arith}
use Rattle.refusal.proofs.Asked.{judged_sound}
use Rattle.waiting_graph.proofs.GraphAnswers.{answers_12, answers_wait}
use Rattle.waiting_graph.proofs.answer.answer.Goals as goal

pub returns-then-transitions-t : goal.returns-then-transitions-t
returns-then-transitions-t c = rw (c.refuse.ensures, ← c.from-t.ensures) (answers_12 (judged_sound c.in_ok-accepts.ensures) (omega arith))

pub returns : goal.returns
returns c = answers_wait (judged_sound c.in_ok-accepts.ensures) (omega arith) (rw c.from-t.ensures at c.wait_sum.ensures)
