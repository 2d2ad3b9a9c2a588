-- Look's refusal as it stands; else the step in look's graph, which is good.
use Rattle.std.proofs.lemmas.Result.{err_from_is_err_and}
use Rattle.reader.proofs.Accepting.{accepted_good}
use Rattle.stepping.proofs.Answers.{step_reply, step_unread}
use Rattle.stepping.proofs.step.Goals as goal

pub returns-in_err-g : goal.returns-in_err-g
returns-in_err-g c =
    let p = err_from_is_err_and c.from_residual.result c.from_residual.ensures.1 in
    rw (p.1, p.2) (step_unread c.in_err-g.ensures)

pub lend-requires : goal.lend-requires
lend-requires c = accepted_good c.args.file.now c.in_ok-g.ensures

pub returns : goal.returns
returns c = step_reply c.in_ok-g.ensures c.lend.result c.lend.ensures.plan c.step_graph.ensures
