-- The file that is read is how the input begins.
use Rattle.std.proofs.Common.{rules}
use Rattle.std.proofs.lemmas.Result.{on_ok_weaker}
use Rattle.input.proofs.First.{of_first}
use Rattle.report_main.specs.Printed.{Printed}
use Rattle.report_main.proofs.show.Goals as goal

pub returns : goal.returns
returns g c = on_ok_weaker c.print.result (of_first (λ file. Printed file (g.W.Write.contents c.args.out.now) (g.W.Write.contents c.print.new.out)) _ _ 2049 _ (search rules) c.in_ok-n.ensures.first) c.print.ensures
