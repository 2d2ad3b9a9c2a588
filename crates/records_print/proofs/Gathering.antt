-- Laws of text that is gathered on a page: what is put stands there, and one piece goes on where the last one ended.
use Rattle.std.proofs.Common.{◌≡◌, ℕ, ◌+◌, ◌<◌, ◌≤◌, List, [], ◌∷◌, ◌++◌, length, replicate, take, drop, ap, sym, ◌∙◌, arith, length-take-le, append_assoc}
use Rattle.std.proofs.lemmas.List.Edits.{sets-eq}
use Rattle.std.proofs.KnownBytes.{Appends-trans}
use Rattle.std.specs.declared.option.Option.{Option}
use native.Mathlib.Numerals.{add-one}
use lib.ListN.{length-append}
use lib.Seq.{take_at}
use Rattle.pen_put.specs.Lines.{HasRoom, Put, item, series}
use Rattle.pen_put.proofs.DigitLaws.{digits_short}
use Rattle.pen_put.proofs.PutLaws.{put_within}
use Rattle.records_print.specs.Page.{Gathered}

-- a number has room where a page is roomy, and in 32 bytes
pub number_room : (page : List ℕ) (at x : ℕ) → at + 32 ≤ length page → x < 18446744073709551616 → HasRoom page at (item (32 ∷ []) x)
unfolding item
number_room page at x roomy small = record { room = omega (arith, digits_short 19 x (omega (arith, small)), roomy) }

-- and in a buffer of 32 bytes it ends within them
pub number_ends : {x next : ℕ} {after : List ℕ} → x < 18446744073709551616 → Put (replicate 32 0) 0 (item (32 ∷ []) x) after next → next ≤ length after
number_ends {x} small p = put_within p (number_room (replicate 32 0) 0 x (omega arith) small)

-- what is put stands behind what was there
pub put_more : (before text after : List ℕ) (at next : ℕ) → HasRoom before at text → Put before at text after next → take next after ≡ take at before ++ text
put_more before text after at next f p =
    let rest = drop (at + length text) before in
    let stands = p.stands ∙ sets-eq text before at f.room in
    let long : length (take at before ++ text) ≡ next = omega (arith, length-append (take at before) text, length-take-le at before (omega (arith, f.room)), p.place) in
    ap (take next) stands ∙ take_at (take at before ++ text) rest next long

-- one text more is put on the page
pub gathered_put : {a b : Option (List ℕ)} {page page' text more : List ℕ} {at next : ℕ} → Gathered a b page at text → HasRoom page at more → Put page at more page' next → Gathered a b page' next (text ++ more)
gathered_put {page = page} {page' = page'} {more = more} {at = at} {next = next} h f p =
    record {
      sent = h.sent;
      appended = h.appended;
      whole = ap (λ (l : List ℕ). h.sent ++ l) (put_more page more page' at next f p) ∙ sym (append_assoc h.sent (take at page) more) ∙ ap (λ (l : List ℕ). l ++ more) h.whole;
    }

-- and gathering goes on from it
pub gathered_on : {a b c : Option (List ℕ)} {page page' text : List ℕ} (more : List ℕ) {at next : ℕ} → Gathered a b page at text → Gathered b c page' next (take at page ++ more) → Gathered a c page' next (text ++ more)
gathered_on {a} {b} {c} {page} {page'} {text} more {at} {next} h k =
    record {
      sent = h.sent ++ k.sent;
      appended = Appends-trans a b c h.sent k.sent h.appended k.appended;
      whole = append_assoc h.sent k.sent (take next page') ∙ ap (λ (l : List ℕ). h.sent ++ l) k.whole ∙ sym (append_assoc h.sent (take at page) more) ∙ ap (λ (l : List ℕ). l ++ more) h.whole;
    }

-- a number more, of a row behind a word
pub series_on : (word : List ℕ) (text : ℕ → List ℕ) (i : ℕ) → (word ++ series text i) ++ text i ≡ word ++ series text (i + 1)
series_on word text i = rw (add-one i) (append_assoc word (series text i) (text i))
