-- The entries of a list: how many there are, and which bytes each is.
use Rattle.std.proofs.Common.{◌≡◌, ℕ, zero, suc, ◌+◌, ◌*◌, ◌/◌, ◌<◌, List, [], ◌∷◌, length, get_or, refl, ap, ◌∙◌, sym, arith}
use Rattle.little.specs.Little.{word}
use Rattle.records.specs.Parts.{words}

pub words_length : (s : List ℕ) → length (words s) ≡ length s / 2
words_length [] = omega arith
words_length (a ∷ []) = omega arith
words_length (a ∷ b ∷ s) = omega (arith, words_length s)

-- two bytes further on are two bytes behind
word_behind : (a b : ℕ) (s : List ℕ) (k : ℕ) → word (a ∷ b ∷ s) (suc (suc k)) ≡ word s k
unfolding word
word_behind a b s k = let e : suc (suc k) + 1 ≡ suc (suc (k + 1)) = omega arith in rw e refl

pub words_at : (s : List ℕ) (k : ℕ) → k < length s / 2 → get_or (words s) k 0 ≡ word s (2 * k)
unfolding word
words_at [] k h = absurd (omega (arith, h))
words_at (a ∷ []) k h = absurd (omega (arith, h))
words_at (a ∷ b ∷ s) zero h = refl
words_at (a ∷ b ∷ s) (suc k) h =
    let two : 2 * suc k ≡ suc (suc (2 * k)) = omega arith in
    words_at s k (omega (arith, h)) ∙ sym (word_behind a b s (2 * k)) ∙ ap (word (a ∷ b ∷ s)) (sym two)
