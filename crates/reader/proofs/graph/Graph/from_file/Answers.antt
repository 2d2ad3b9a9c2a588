-- A frame that is wrong gives its refusal; else what is judged of the graph that is read is judged of the file.
use Rattle.std.proofs.lemmas.Result.{err_from_is_err_and}
use Rattle.refusal.proofs.Asked.{given_first, judged_given, judged_sound}
use Rattle.net.specs.Rules.{graph_rows}
use Rattle.file_trailer.specs.File.{plan_of}
use Rattle.file.specs.Frame.{frame_rows}
use Rattle.file.proofs.Order.{sound_framed}
use Rattle.reader.specs.Reply.{declined, looked}
use Rattle.reader.proofs.Accepting.{judged_shown}
use Rattle.reader.proofs.graph.Graph.from_file.Goals as goal

pub returns-in_err-framed : goal.returns-in_err-framed
returns-in_err-framed c =
    let p = err_from_is_err_and c.from_residual.result c.from_residual.ensures.1 in
    let f = c.args.file.now in
    rw (p.1, p.2) (declined (given_first (frame_rows f) (graph_rows (plan_of f)) (judged_given c.in_err-framed.ensures)))

pub returns-in_err-judge : goal.returns-in_err-judge
returns-in_err-judge c =
    let p = err_from_is_err_and c.from_residual-in_err-judge.result c.from_residual-in_err-judge.ensures.1 in
    rw (p.1, p.2) (declined (judged_given (judged_shown _ (sound_framed (judged_sound c.in_ok-framed.ensures)) c.read-g.ensures c.in_err-judge.ensures)))

pub returns : goal.returns
returns c = looked (judged_sound (judged_shown _ (sound_framed (judged_sound c.in_ok-framed.ensures)) c.read-g.ensures c.in_ok-judge.ensures)) c.read-g.ensures
