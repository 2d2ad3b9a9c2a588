-- Rows 10 and 11 first: `refused_kept`, else `taken`.
use Rattle.refusal.proofs.Asked.{judged_sound}
use Rattle.stepping_graph.specs.helpers.Work.GraphStepped.{taken}
use Rattle.stepping_graph.proofs.graph.step_graph.Goals as goal

pub returns : goal.returns
returns c = taken (judged_sound c.in_ok-accepts.ensures) c.step_rows.ensures
