-- A number has room on a page that is roomy, and stands there behind what was gathered.
use Rattle.std.proofs.Common.{arith}
use Rattle.pen_put.proofs.PutLaws.{put_length, put_within}
use Rattle.records_print.proofs.Gathering.{gathered_put, number_room}
use Rattle.records_print.proofs.put.Goals as goal

pub put_item-page-requires : goal.put_item-page-requires
put_item-page-requires g c = number_room c.turn.new.page.bytes c.turn.new.page.fill c.args.x (omega (arith, c.in_ok-turn.ensures.room.room)) c.ranges.x.fits

pub invariant_of-page : goal.invariant_of-page
invariant_of-page g c =
    let room = number_room c.turn.new.page.bytes c.turn.new.page.fill c.args.x (omega (arith, c.in_ok-turn.ensures.room.room)) c.ranges.x.fits in
    record { within = omega (arith, put_within c.put_item-page.ensures room, put_length c.put_item-page.ensures) }

pub returns-clause-text : goal.returns-clause-text
returns-clause-text g c =
    let room = number_room c.turn.new.page.bytes c.turn.new.page.fill c.args.x (omega (arith, c.in_ok-turn.ensures.room.room)) c.ranges.x.fits in
    gathered_put c.in_ok-turn.ensures.text room c.put_item-page.ensures
