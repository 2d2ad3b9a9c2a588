-- A number and its blank have room in 32 bytes, and what is written of them is the number's text.
use Rattle.std.proofs.Common.{sym, subst, length-take-le, arith}
use Rattle.std.proofs.lemmas.Result.{on_ok_weaker}
use Rattle.std.specs.Io.KnownBytes.{Appends}
use Rattle.pen_put.proofs.PutLaws.{put_length, put_read}
use Rattle.records_print.proofs.Gathering.{number_ends, number_room}
use Rattle.records_print.proofs.number.Goals as goal

pub put_item-end-requires : goal.put_item-end-requires
put_item-end-requires g c = number_room _ 0 c.args.x (omega arith) c.ranges.x.fits

pub slice_bounds-text-end : goal.slice_bounds-text-end
slice_bounds-text-end g c = number_ends c.ranges.x.fits c.put_item-end.ensures

pub slice_bounds-word-end : goal.slice_bounds-word-end
slice_bounds-word-end g c = sym (length-take-le _ _ (number_ends c.ranges.x.fits c.put_item-end.ensures))

pub returns : goal.returns
returns g c =
    let within = number_ends c.ranges.x.fits c.put_item-end.ensures in
    let is = put_read c.put_item-end.ensures (omega (arith, within, put_length c.put_item-end.ensures)) in
    on_ok_weaker c.word.result (λ a. subst (Appends _ _) is a) c.word.ensures
