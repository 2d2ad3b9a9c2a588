-- One more read stands behind the earlier ones, in the buffer as in the input.
use Rattle.std.proofs.Common.{◌≡◌, ℕ, ◌+◌, ◌-◌, ◌≤◌, List, ◌++◌, arith, length, take, sym, ap, ◌∙◌, subst, length-take-le}
use Rattle.std.proofs.lemmas.List.{take-append-le}
use Rattle.std.proofs.Math.Seq.{take-append-add}
use Rattle.std.specs.Io.KnownBytes.{Consumes}
use Rattle.std.proofs.KnownBytes.{Consumes-trans}
use borrow.Rule.Slice.PartMut.{put_mid, post_of}
use Rattle.input.proofs.fill.Goals as goal

-- the first n of what is put at a place stand behind what was before it
take_read : (a k n : ℕ) (xs ys : List ℕ) → a ≤ length xs → n ≤ length ys → take (a + n) (put_mid a k xs ys) ≡ take a xs ++ take n ys
take_read a k n xs ys h l =
    let rest = post_of a k xs in
    ap (λ m. take (m + n) (put_mid a k xs ys)) (sym (length-take-le a xs h)) ∙ take-append-add (take a xs) (ys ++ rest) n ∙ ap (λ zs. take a xs ++ zs) (take-append-le n ys rest l)

pub loop-done-preserved : goal.loop-done-preserved
loop-done-preserved g c =
    let l = c.loop-done in
    let within = l.invariant.0 in
    let read = take_read l.done (length l.buffer - l.done) c.in_ok-n.n l.buffer c.read.new.buf within c.in_ok-n.ensures.bound.0 in
    (omega (arith, c.in_ok-n.ensures.bound.0), subst (Consumes _ _) (sym read) (Consumes-trans _ _ _ _ _ l.invariant.1 c.in_ok-n.ensures.bytes.0))
