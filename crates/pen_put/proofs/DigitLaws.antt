-- The digits of a number: how they go on, and that they read back as the number.
use mathlib.Core.Bool.{Bool, true, false}
use mathlib.Core.Logic.{◌⊎◌, inl, inr}
use mathlib.Core.Path.{◌≡◌, refl, ap, sym, ◌∙◌}
use Prim.Native.Nat.{ℕ, zero, suc, ◌+◌, ◌*◌, ◌-◌, ◌/◌, ◌%◌, ◌^◌, ◌<◌, ◌≤◌}
use native.Mathlib.Omega.{arith}
use mathlib.Core.List.{List, [], ◌∷◌, ◌++◌}
use lib.Dec.{ltb}
use lib.ListN.{length, length-append}
use borrow.Author.Tests.{ltb-true, ltb-false, lt-ltb, le-ltb}
use Rattle.pen_put.specs.Digits.{digits_by, digits}
use Rattle.pen_put.specs.helpers.Reading.{reads_on, reads, Decimal}

small_or : (n : ℕ) → (n < 10) ⊎ (10 ≤ n)
small_or n = go (ltb n 10) refl
  where
    go : (b : Bool) → ltb n 10 ≡ b → (n < 10) ⊎ (10 ≤ n)
    go true e = inl (ltb-true n 10 e)
    go false e = inr (ltb-false n 10 e)

by_small : (f n : ℕ) → n < 10 → digits_by f n ≡ (48 + n) ∷ []
unfolding digits_by
by_small zero n h = refl
by_small (suc f) n h = rw (lt-ltb n 10 h)

by_more : (f n : ℕ) → 10 ≤ n → digits_by (suc f) n ≡ digits_by f (n / 10) ++ ((48 + n % 10) ∷ [])
unfolding digits_by
by_more f n h = rw (le-ltb n 10 h)

-- more fuel than enough changes nothing
same_fuel : (f g n : ℕ) → n ≤ f → n ≤ g → digits_by f n ≡ digits_by g n
same_fuel zero g n h k = by_small zero n (omega arith) ∙ sym (by_small g n (omega arith))
same_fuel (suc f) zero n h k = by_small (suc f) n (omega arith) ∙ sym (by_small zero n (omega arith))
same_fuel (suc f) (suc g) n h k = go (small_or n) (λ m. same_fuel f g (n / 10) (omega arith) (omega arith))
  where
    go : (n < 10) ⊎ (10 ≤ n) → (10 ≤ n → digits_by f (n / 10) ≡ digits_by g (n / 10)) → digits_by (suc f) n ≡ digits_by (suc g) n
    go (inl s) e = by_small (suc f) n s ∙ sym (by_small (suc g) n s)
    go (inr m) e = by_more f n m ∙ ap (λ (l : List ℕ). l ++ ((48 + n % 10) ∷ [])) (e m) ∙ sym (by_more g n m)

-- a number below 10 is one digit
pub digits_small : (n : ℕ) → n < 10 → digits n ≡ (48 + n) ∷ []
unfolding digits
digits_small n h = by_small n n h

-- any other has the digits of its tenth, then its last
pub digits_more : (n : ℕ) → 10 ≤ n → digits n ≡ digits (n / 10) ++ ((48 + n % 10) ∷ [])
unfolding digits
digits_more zero h = absurd (omega arith)
digits_more (suc m) h = by_more m (suc m) h ∙ ap (λ (l : List ℕ). l ++ ((48 + suc m % 10) ∷ [])) (same_fuel m (suc m / 10) (suc m / 10) (omega arith) (omega arith))

-- so what holds of one digit, and goes on from a number's tenth to the number, holds of all digits
module _ (P : ℕ → List ℕ → Type 0) (one : (n : ℕ) → n < 10 → P n ((48 + n) ∷ [])) (on : (n : ℕ) (ds : List ℕ) → 10 ≤ n → P (n / 10) ds → P n (ds ++ ((48 + n % 10) ∷ []))) where
  digits_upto : (f n : ℕ) → n ≤ f → P n (digits n)
  digits_upto zero n h = rw (digits_small n (omega arith)) (one n (omega arith))
  digits_upto (suc f) n h = go (small_or n) (λ m. digits_upto f (n / 10) (omega arith))
    where
      go : (n < 10) ⊎ (10 ≤ n) → (10 ≤ n → P (n / 10) (digits (n / 10))) → P n (digits n)
      go (inl s) e = rw (digits_small n s) (one n s)
      go (inr m) e = rw (digits_more n m) (on n (digits (n / 10)) m (e m))

  pub digits_all : (n : ℕ) → P n (digits n)
  digits_all n = digits_upto n n (omega arith)

reads_last : (v : ℕ) (ds : List ℕ) (d : ℕ) → reads_on v (ds ++ (d ∷ [])) ≡ reads_on v ds * 10 + (d - 48)
reads_last v [] d = refl
reads_last v (x ∷ ds) d = reads_last (v * 10 + (x - 48)) ds d

-- the text of a number reads back as the number
pub reads_digits : (n : ℕ) → reads (digits n) ≡ n
reads_digits = digits_all (λ n ds. reads ds ≡ n) (λ n h. omega arith) (λ n ds h e. omega (arith, reads_last 0 ds (48 + n % 10)))

-- so two numbers have the same text only if they are the same
pub digits_injective : (m n : ℕ) → digits m ≡ digits n → m ≡ n
digits_injective m n e = sym (reads_digits m) ∙ ap reads e ∙ reads_digits n

decimal_last : (ds : List ℕ) (d : ℕ) → Decimal ds → 48 ≤ d → d ≤ 57 → Decimal (ds ++ (d ∷ []))
decimal_last [] d p l h = (l, h, tt)
decimal_last (x ∷ ds) d p l h = (p.0, p.1, decimal_last ds d p.2 l h)

-- each byte of a number's text is one of 48 to 57
pub digits_decimal : (n : ℕ) → Decimal (digits n)
digits_decimal = digits_all (λ n ds. Decimal ds) (λ n h. (omega arith, omega arith, tt)) (λ n ds h e. decimal_last ds (48 + n % 10) e (omega arith) (omega arith))

-- a number below 10 ^ k has at most k digits, for any k from 1 on
pub digits_short : (k n : ℕ) → n < 10 ^ suc k → length (digits n) ≤ suc k
digits_short k n = digits_all (λ n ds. (k : ℕ) → n < 10 ^ suc k → length ds ≤ suc k) (λ n h k s. omega arith) on n k
  where
    on : (n : ℕ) (ds : List ℕ) → 10 ≤ n → ((k : ℕ) → n / 10 < 10 ^ suc k → length ds ≤ suc k) → (k : ℕ) → n < 10 ^ suc k → length (ds ++ ((48 + n % 10) ∷ [])) ≤ suc k
    on n ds h e zero s = absurd (omega arith)
    on n ds h e (suc k) s = omega (arith, e k (omega arith), length-append ds ((48 + n % 10) ∷ []))
