-- The rows of the first e edges are written.
use Rattle.std.specs.Io.KnownBytes.{Appends}
use Rattle.records_marking.specs.Lines.{rows_text}
use Rattle.records_marking.proofs.rows.Given as goal

abbrev pub invariant-loop-e : goal.invariant-loop-e
invariant-loop-e g l = Appends (g.W.Write.contents l.fn.output) (g.W.Write.contents l.output) (rows_text l.g.from l.g.to l.g.mark l.e)
