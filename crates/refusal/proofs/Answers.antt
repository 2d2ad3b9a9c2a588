-- Laws of a test's answer: what it says where it is known, and tests that say the same.
use mathlib.Core.Path.{◌≡◌, refl, sym}
use mathlib.Core.Bool.{Bool, false, true, true≢false}
use Prim.Native.Nat.{ℕ}
use lib.Dec.{eqb}
use borrow.Author.Tests.{eqb-false, eqb-true}
use Rattle.refusal.specs.helpers.Answers.{Says, fails, holds}

pub said : {P : Type 0} {r : Bool} → Says P r → r ≡ true → P
said (holds p) e = p
said (fails f) e = absurd (true≢false (sym e))

pub denied : {P : Type 0} {r : Bool} → Says P r → r ≡ false → P → ⊥
denied (holds p) e = absurd (true≢false e)
denied (fails f) e = f

-- A test of P tests Q where the two are one.
pub says_map : {P Q : Type 0} {r : Bool} → (P → Q) → (Q → P) → Says P r → Says Q r
says_map f g (holds p) = holds (f p)
says_map f g (fails n) = fails (λ q. n (g q))

-- An equality of numbers, tested.
pub says_eqb : {P : Type 0} {a b : ℕ} → (a ≡ b → P) → (P → a ≡ b) → Says P (eqb a b)
says_eqb {P} {a} {b} to back = go (eqb a b) refl
  where
    go : (t : Bool) → eqb a b ≡ t → Says P t
    go true e = holds (to (eqb-true a b e))
    go false e = fails (λ p. eqb-false a b e (back p))
