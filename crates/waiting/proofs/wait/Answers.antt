-- The reply for look's graph, which is good. (Look's refusal stands: `unread_reply`.)
use Rattle.reader.proofs.Accepting.{accepted_good}
use Rattle.waiting.proofs.Answers.{ended_reply}
use Rattle.waiting.proofs.wait.Goals as goal

pub lend-requires : goal.lend-requires
lend-requires c = accepted_good c.args.file.now c.in_ok-g.ensures

pub returns : goal.returns
returns c = ended_reply c.lend.result c.in_ok-g.ensures c.lend.ensures.plan c.answer.ensures
