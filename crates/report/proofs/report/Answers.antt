-- 14 first; then look's refusal on its line, or the report of look's graph, which is good.
use native.Mathlib.Omega.{arith}
use Rattle.refusal.proofs.Answers.{denied, said}
use Rattle.refusal.proofs.Asked.{sound_next, sound_none}
use Rattle.reader.specs.Outcome.{passed, unread}
use Rattle.reader.proofs.Accepting.{accepted_good}
use Rattle.report.specs.Reply.{refused, short, written}
use Rattle.report.proofs.Theorems.{short_given}
use Rattle.report.proofs.report.Goals as goal

pub returns-then-not-roomy : goal.returns-then-not-roomy
returns-then-not-roomy c =
    rw c.refuse.ensures (short (short_given c.args.buffer.now (omega (arith, denied c.roomy.ensures c.if-not-roomy.true))))

pub write_refused-requires : goal.write_refused-requires
write_refused-requires c = omega (arith, said c.roomy.ensures c.if-not-roomy.false)

pub lend-requires : goal.lend-requires
lend-requires c = accepted_good _ c.in-Ok.ensures

pub answer-requires : goal.answer-requires
answer-requires c = record { good = c.lend.ensures.good; report_bytes_in_bounds = said c.roomy.ensures c.if-not-roomy.false }

pub returns-in-Err : goal.returns-in-Err
returns-in-Err c =
    refused (sound_next (λ _ _. said c.roomy.ensures c.if-not-roomy.false) sound_none) (unread c.in-Err.ensures) c.write_refused.ensures

pub returns-in-Ok : goal.returns-in-Ok
returns-in-Ok c =
    let told = rw c.lend.ensures.plan at c.answer.ensures in
    written (sound_next (λ _ _. said c.roomy.ensures c.if-not-roomy.false) sound_none) (passed c.in-Ok.ensures sound_none) told.numbers told.put
