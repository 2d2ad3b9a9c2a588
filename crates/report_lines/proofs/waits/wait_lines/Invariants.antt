-- The loop's invariant: the lines of the first t transitions are written.
use Rattle.marked.specs.Net.{at}
use Rattle.pen.proofs.Wrote.{WroteRow}
use Rattle.report_text.specs.Text.{wait_of}
use Rattle.report_lines.proofs.waits.wait_lines.Given as goal

abbrev pub invariant-loop-t : goal.invariant-loop-t
invariant-loop-t l = WroteRow l.initial.w (wait_of (at l.waits)) l.t l.w
