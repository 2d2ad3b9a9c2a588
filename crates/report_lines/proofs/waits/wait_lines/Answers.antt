-- The loop's invariant: the lines of the first t transitions are written.
use Rattle.pen.proofs.Wrote.{row_more, row_room}
use Rattle.report_text.specs.Text.{wait_lines}
use Rattle.report_lines.proofs.waits.wait_lines.Goals as goal

pub pair_line-requires : goal.pair_line-requires
unfolding wait_lines
pair_line-requires c = rw c.from.ensures (row_room c.loop-t.invariant (rw c.transitions-t-end.ensures at c.loop-t-test.true) c.requires.has_room)

pub loop-t-preserved : goal.loop-t-preserved
loop-t-preserved c = row_more c.loop-t.invariant (rw c.from.ensures at c.pair_line.ensures)
