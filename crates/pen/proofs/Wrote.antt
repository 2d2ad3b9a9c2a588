-- Laws of what a writer has written: texts one behind the other are one text.
use mathlib.Core.Path.{refl, sym}
use mathlib.Core.List.{List, ◌++◌}
use native.Mathlib.Nat.{add-zero}
use native.Mathlib.Numerals.{add-one}
use native.Mathlib.Omega.{arith}
use lib.ListN.{length, length-append, length-set}
use lib.Seq.{length-sets}
use Prim.Native.Nat.{ℕ, ◌+◌, ◌<◌}
use Rattle.pen_put.specs.Lines.{Put, series}
use Rattle.pen_put.proofs.PutLaws.{put_length, series_length, sets_append, then_room}
use Rattle.pen.specs.declared.Writer.{Writer}
use Rattle.pen.specs.Wrote.{HasRoomFor, Wrote}

-- the writer w has written the text a, and is then x
module _ {w x : Writer} {a : List ℕ} (p : Wrote w a x) where
  -- what it wrote is put
  pub wrote_put : Put w.buf.now w.at a x.buf.now x.at
  wrote_put = rw p.is (record { place = refl; stands = refl })

  -- where it had room for more, it has room for the next
  pub room_next : {b : List ℕ} → HasRoomFor w (a ++ b) → HasRoomFor x b
  room_next f = then_room wrote_put f

  -- with which it has written both
  pub wrote_next : {b : List ℕ} {y : Writer} → Wrote x b y → Wrote w (a ++ b) y
  wrote_next {b} {y} q = grind (arith, sets_append, length-append)

-- texts in a row: the writer before has written the first i of them, and is then after
pub record WroteRow (before : Writer) (text : ℕ → List ℕ) (i : ℕ) (after : Writer) : Type 0 where
  pub row : Wrote before (series text i) after

-- at the start none is written
pub row_start : (w : Writer) (text : ℕ → List ℕ) → WroteRow w text 0 w
row_start w text = record { row = record { is = λ i. record { buf = w.buf; at = sym (add-zero w.at) i } } }

module _ {w x : Writer} {text : ℕ → List ℕ} {i : ℕ} (p : WroteRow w text i x) where
  -- where there was room for more, there is room for the next
  pub row_room : {n : ℕ} → i < n → HasRoomFor w (series text n) → HasRoomFor x (text i)
  row_room {n} h f = let put = wrote_put p.row in record { room = omega (arith, put_length put, put.place, f.room, series_length text i n h) }

  -- with it, one more is written
  pub row_more : {y : Writer} → Wrote x (text i) y → WroteRow w text (i + 1) y
  row_more q = record { row = rw (add-one i) (wrote_next p.row q) }

-- how lines are put together
pub ruleset writing = (sets_append, length-append, length-set, length-sets)
