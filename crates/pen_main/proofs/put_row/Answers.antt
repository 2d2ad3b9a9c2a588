-- The loop's invariant: the first numbers are written.
use Rattle.pen_main.specs.Page.{number_row}
use Rattle.pen.proofs.Wrote.{row_more, row_room}
use Rattle.pen_main.proofs.put_row.Goals as goal

pub item-requires : goal.item-requires
unfolding number_row
item-requires c = row_room c.loop-n.invariant c.loop-n-test.true c.requires

pub loop-n-preserved : goal.loop-n-preserved
loop-n-preserved c = row_more c.loop-n.invariant c.item.ensures
