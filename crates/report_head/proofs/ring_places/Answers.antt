-- The loop's invariant: the first places are written.
use Rattle.report_text.specs.Text.{ring_places}
use Rattle.pen.proofs.Wrote.{row_more, row_room}
use Rattle.report_head.proofs.ring_places.Goals as goal

pub item-requires : goal.item-requires
unfolding ring_places
item-requires c = rw c.from.ensures (row_room c.loop-place.invariant c.loop-place-test.true c.requires)

pub loop-place-preserved : goal.loop-place-preserved
loop-place-preserved c = row_more c.loop-place.invariant (rw c.from.ensures at c.item.ensures)
