-- The first numbers are written or on the page.
use Rattle.std.proofs.Common.{map, ◌++◌}
use Rattle.little.specs.Text.{bytes}
use Rattle.pen_put.specs.Lines.{series}
use Rattle.records_print.specs.Page.{Gathered}
use Rattle.records_print.specs.Text.{entry_text}
use Rattle.records_print.proofs.memory.Given as goal

abbrev pub invariant-loop-x : goal.invariant-loop-x
invariant-loop-x g l =
    Gathered (g.W.Write.contents l.fn.output) (g.W.Write.contents l.output) l.page.bytes l.page.fill (bytes " memory" ++ series (entry_text (map g.T.Entry.value l.entries)) l.x-index)
