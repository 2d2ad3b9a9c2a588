-- One number more goes behind the others.
use Rattle.std.proofs.Common.{ap, ◌∙◌, sym, subst, map, ◌++◌}
use Rattle.std.proofs.lemmas.List.{get_or-map}
use Rattle.little.specs.Text.{bytes}
use Rattle.pen_put.specs.Lines.{series}
use Rattle.records_print.specs.Page.{Gathered}
use Rattle.records_print.specs.Text.{entry_text, number_text}
use Rattle.records_print.proofs.Gathering.{gathered_on, series_on}
use Rattle.records_print.proofs.memory.Goals as goal

pub loop-x-preserved : goal.loop-x-preserved
loop-x-preserved g c =
    let value = g.T.Entry.value in
    let i = c.loop-x.x-index in
    let x = c.x-item.result in
    let numbers = map value c.args.entries.now in
    let row = bytes " memory" ++ series (entry_text numbers) i in
    let entry = get_or-map value c.args.entries.now i x 0 c.loop-x-test.true in
    let is = c.long.ensures ∙ ap value c.x-item.is ∙ sym entry in
    let whole = ap (λ n. row ++ number_text n) is ∙ series_on (bytes " memory") (entry_text numbers) i in
    subst (Gathered _ _ _ _) whole (gathered_on _ c.loop-x.invariant c.in_ok-put.ensures.text)
