-- Rows 10 and 11 first: `kept`, else `taken`.
use Rattle.refusal.proofs.Asked.{judged_given, judged_sound}
use Rattle.stepping_graph.specs.helpers.Work.GraphRun.{kept, taken}
use Rattle.stepping_graph.proofs.graph.run_graph.Goals as goal

pub returns-in-Err : goal.returns-in-Err
returns-in-Err c = kept (judged_given c.in-Err.ensures)

pub returns : goal.returns
returns c = taken (judged_sound c.in_default.ensures) c.run_rows.ensures
