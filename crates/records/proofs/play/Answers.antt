-- The copy is the input; what is read of it is its first 60,000 bytes.
use Rattle.std.proofs.Common.{refl, rules}
use Rattle.std.proofs.lemmas.Result.{on_ok_weaker}
use Rattle.input.proofs.First.{of_first}
use Rattle.records.specs.Records.{Lines}
use Rattle.records.proofs.play.Goals as goal

pub returns : goal.returns
returns g c =
    on_ok_weaker c.each.result (of_first (λ s. Lines s 0 (g.W.Write.contents c.args.output.now) (g.W.Write.contents c.each.new.output)) _ _ 60000 _ (search rules) c.in_ok-n.ensures.first) (c.each.ensures refl)
