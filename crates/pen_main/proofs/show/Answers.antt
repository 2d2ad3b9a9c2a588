-- The page has at most 128 bytes, so it fits, and what is written of the buffer is the page.
use Rattle.std.proofs.Common.{◌≡◌, ℕ, List, length, sym, subst, refl, arith, length-take-le}
use Rattle.std.proofs.lemmas.Result.{on_ok_weaker}
use Rattle.std.specs.Io.KnownBytes.{Appends}
use lib.ListN.{length-append}
use Rattle.pen_put.specs.Lines.{HasRoom, line_end, item, item_line, pair_line}
use Rattle.pen_put.proofs.DigitLaws.{digits_short}
use Rattle.pen_put.proofs.PutLaws.{put_length, put_read, put_within}
use Rattle.pen.proofs.Wrote.{wrote_put}
use Rattle.pen_main.specs.Page.{number_row, page, shown}
use Rattle.pen_main.proofs.show.Goals as goal

page_room : (buf : List ℕ) → length buf ≡ 128 → HasRoom buf 0 (page shown)
unfolding page number_row pair_line item_line item line_end
page_room buf long =
    record {
      room = simp length-append
          (omega (arith, long, digits_short 0 0 (omega arith), digits_short 0 9 (omega arith), digits_short 1 10 (omega arith), digits_short 19 18446744073709551615 (omega arith)));
    }

pub put_page-requires : goal.put_page-requires
put_page-requires g c = page_room _ refl

pub slice_bounds-write_all-end : goal.slice_bounds-write_all-end
slice_bounds-write_all-end g c = sym (length-take-le _ _ (put_within (wrote_put c.put_page.ensures) (page_room _ refl)))

pub returns : goal.returns
returns g c =
    let put = wrote_put c.put_page.ensures in
    let is = put_read put (omega (arith, put_length put, put_within put (page_room _ refl))) in
    on_ok_weaker c.write_all.result (λ a. subst (Appends _ _) is a) c.write_all.ensures.bytes
