-- The buffer that is lent is as long as is asked, and each byte of it is 170.
use Rattle.std.proofs.Common.{◌∙◌, ℕ, List, ap, subst, replicate}
use Rattle.std.proofs.lemmas.List.{take-replicate}
use Rattle.std.proofs.lemmas.Result.{on_ok_weaker}
use Rattle.records.specs.Called.{ReportLine}
use Rattle.records.proofs.calls.report_line.Goals as goal

pub returns : goal.returns
returns g c =
    let lent = take-replicate c.room-n.result 4096 170 c.room-n.ensures.bound ∙ ap (λ n. replicate n 170) c.room-n.ensures.value in
    let of = λ (before : List ℕ). ReportLine c.args.file.now before c.report_in.new.buffer (g.W.Write.contents c.args.output.now) (g.W.Write.contents c.report_in.new.output) in
    on_ok_weaker c.report_in.result (λ line. (c.report_in.new.buffer, subst of lent line)) c.report_in.ensures.line
