-- Writes one behind the other are one write: laws of `HasRoom` and `Put`, from which every line and row of texts is put together.
use mathlib.Core.Path.{◌≡◌, refl, ap, sym, ◌∙◌}
use Prim.Native.Nat.{ℕ, zero, suc, ◌+◌, ◌<◌, ◌≤◌}
use mathlib.Core.Logic.{◌⊎◌, inl, inr}
use native.Mathlib.Nat.{add-zero, eq-or-lt_of_le}
use native.Mathlib.Numerals.{add-one}
use native.Mathlib.Omega.{arith}
use mathlib.Core.List.{List, [], ◌∷◌, ◌++◌}
use Rattle.std.proofs.lemmas.Grind.{common_steps}
use lib.ListN.{length, set, take, drop, get_or, length-append, length-set}
use lib.Seq.{sets, length-sets, sets-eq, take-suc, take_at}
use Rattle.pen_put.specs.Lines.{HasRoom, Put, series}
use Rattle.pen_put.proofs.DigitLaws.{digits_more, digits_small}

-- a text behind another, stored at once or one after the other
pub sets_append : (l : List ℕ) (i : ℕ) (a b : List ℕ) → sets l i (a ++ b) ≡ sets (sets l i a) (i + length a) b
sets_append l i [] b = ap (λ (k : ℕ). sets l k b) (sym (add-zero i))
sets_append l i (x ∷ a) b = sets_append (set l i x) (suc i) a b ∙ ap (λ (k : ℕ). sets (sets (set l i x) (suc i) a) k b) (omega arith)

-- the text a is written in l from `at` on, which leaves z and the place r; then b is written behind it
module _ {l z : List ℕ} {at r : ℕ} {a : List ℕ} (p : Put l at a z r) where
  -- the buffer is as long as it was
  pub put_length : length z ≡ length l
  put_length = ap length p.stands ∙ length-sets l at a

  -- and where there was room, the place is within it
  pub put_within : HasRoom l at a → r ≤ length z
  put_within f = omega (arith, put_length, p.place, f.room)

  -- where there was room for more, there is room behind it
  pub then_room : {b : List ℕ} → HasRoom l at (a ++ b) → HasRoom z r b
  then_room {b} f = record { room = omega (arith, put_length, p.place, f.room, length-append a b) }

  -- and with b both are put
  pub then_put : {b z' : List ℕ} {r' : ℕ} → Put z r b z' r' → Put l at (a ++ b) z' r'
  then_put {b} q = record {
    place = omega (arith, length-append a b, p.place, q.place);
    stands = q.stands ∙ (λ i. sets (p.stands i) (p.place i) b) ∙ sym (sets_append l at a b);
  }

-- where there is room for both, there is room for the first
pub first_room : {l : List ℕ} {at : ℕ} {a : List ℕ} (b : List ℕ) → HasRoom l at (a ++ b) → HasRoom l at a
first_room {a = a} b f = record { room = omega (arith, f.room, length-append a b) }

-- a text stored at the beginning of a buffer with room for it
pub sets_front : (a l : List ℕ) → length a ≤ length l → sets l 0 a ≡ a ++ drop (length a) l
sets_front a l h =
    let z : 0 + length a ≡ length a = omega arith in
    sets-eq a l 0 (omega (arith, h)) ∙ ap (λ (k : ℕ). a ++ drop k l) z

-- what is put there are its first bytes
pub put_read : {l z a : List ℕ} {r : ℕ} → Put l 0 a z r → r ≤ length l → take r z ≡ a
put_read {l} {z} {a} {r} p h =
    let long : length a ≡ r = omega (arith, p.place) in
    ap (take r) (p.stands ∙ sets_front a l (omega (arith, long))) ∙ take_at a (drop (length a) l) r long

-- what is put determines the buffer and the place behind it
pub put_unique : {l y z : List ℕ} {at r s : ℕ} {a b : List ℕ} → a ≡ b → Put l at a y r → Put l at b z s → (r ≡ s) × (y ≡ z)
put_unique {l} {at = at} e p q = (p.place ∙ ap (λ (t : List ℕ). at + length t) e ∙ sym q.place, p.stands ∙ ap (λ (t : List ℕ). sets l at t) e ∙ sym q.stands)

-- one more byte behind a text
pub put_byte : {l z : List ℕ} {at r r' : ℕ} {a : List ℕ} → Put l at a z r → (d : ℕ) → r' ≡ r + 1 → Put l at (a ++ (d ∷ [])) (set z r d) r'
put_byte p d e = then_put p (record { place = e; stands = refl })

-- one more byte of a word
pub put_next : {l z : List ℕ} {at : ℕ} (s : List ℕ) (i : ℕ) → i < length s → Put l at (take i s) z (at + i) → Put l at (take (i + 1) s) (set z (at + i) (get_or s i 0)) (at + (i + 1))
put_next s i h p = rw (add-one i, take-suc s i 0 h) (put_byte p (get_or s i 0) (omega arith))

-- texts that agree one by one agree in a row
pub series_same : (x y : ℕ → List ℕ) (n : ℕ) → ((i : ℕ) → i < n → x i ≡ y i) → series x n ≡ series y n
series_same x y zero h = refl
series_same x y (suc n) h =
    let a = series_same x y n (λ i l. h i (omega arith)) in
    let b = h n (omega arith) in
    cc

-- the first i texts are shorter than the first n
pub series_length : (text : ℕ → List ℕ) (i n : ℕ) → i < n → length (series text i) + length (text i) ≤ length (series text n)
series_length text i zero h = absurd (omega arith)
series_length text i (suc n) h = go (eq-or-lt_of_le (omega arith)) (λ k. series_length text i n k)
  where
    go : (i ≡ n) ⊎ (i < n) → (i < n → length (series text i) + length (text i) ≤ length (series text n)) → length (series text i) + length (text i) ≤ length (series text n ++ text n)
    go (inl e) on = omega (arith, length-append (series text n) (text n), ap (λ (k : ℕ). length (series text k)) e, ap (λ (k : ℕ). length (text k)) e)
    go (inr k) on = omega (arith, length-append (series text n) (text n), on k)

-- a word copied into its place is stored there
pub stored : (l s : List ℕ) (i k : ℕ) → k ≡ length s → i + length s ≤ length l → take i l ++ (s ++ drop k (drop i l)) ≡ sets l i s
stored l s i k e h = let front = sets-eq s l i h in grind (arith, common_steps)

-- how texts and digits are put
pub ruleset putting = (digits_small, digits_more, first_room, sets_append, stored, length-append, length-set, length-sets)
