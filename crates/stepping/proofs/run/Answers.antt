-- Look's refusal as it stands; else the run in look's graph, which is good.
use Rattle.reader.proofs.Accepting.{accepted_good}
use Rattle.stepping.proofs.Answers.{run_reply, run_unread}
use Rattle.stepping.proofs.run.Goals as goal

pub returns-in-Err : goal.returns-in-Err
returns-in-Err c = run_unread c.in-Err.ensures

pub lend-requires : goal.lend-requires
lend-requires c = accepted_good c.args.file.now c.in-Ok.ensures

pub returns-in-Ok : goal.returns-in-Ok
returns-in-Ok c = run_reply c.in-Ok.ensures c.lend.result c.lend.ensures.plan c.run_graph.ensures
