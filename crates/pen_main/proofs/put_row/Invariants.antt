-- The loop's invariant: the first numbers are written.
use Rattle.pen.proofs.Wrote.{WroteRow}
use Rattle.pen_main.specs.Page.{blank_item}
use Rattle.pen_main.proofs.put_row.Given as goal

abbrev pub invariant-loop-n : goal.invariant-loop-n
invariant-loop-n l = WroteRow l.initial.w (blank_item l.ns) l.n-index l.w
