-- Parts of the copy that no record has reached are those of the input.
use Rattle.std.proofs.Common.{◌≡◌, ℕ, zero, suc, ◌-◌, ◌≤◌, List, [], ◌∷◌, drop, refl, ap, ◌∙◌, sym, arith}
use lib.Seq.{drop-nil}

drop_more : (xs : List ℕ) (a b : ℕ) → a ≤ b → drop (b - a) (drop a xs) ≡ drop b xs
drop_more xs zero b h = let e : b - 0 ≡ b = omega arith in rw e refl
drop_more [] (suc a) b h = drop-nil (b - suc a) ∙ sym (drop-nil b)
drop_more (x ∷ xs) (suc a) zero h = absurd (omega (arith, h))
drop_more (x ∷ xs) (suc a) (suc b) h = let e : suc b - suc a ≡ b - a = omega arith in rw e (drop_more xs a b (omega (arith, h)))

-- lists that agree from a place on agree from a later one on
pub behind : (xs ys : List ℕ) (a b : ℕ) → a ≤ b → drop a xs ≡ drop a ys → drop b xs ≡ drop b ys
behind xs ys a b h e = sym (drop_more xs a b h) ∙ ap (drop (b - a)) e ∙ drop_more ys a b h
