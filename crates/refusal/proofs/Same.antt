-- Rows that ask the same of the same places, one by one, give the same verdict.
use Prim.Native.Nat.{ℕ}
use mathlib.Core.Path.{◌≡◌, sym, ◌∙◌, refl}
use mathlib.Core.Logic.{inl, inr}
use mathlib.Core.List.{List, [], ◌∷◌}
use Rattle.refusal.specs.Asking.{AllKept, Ask, FirstBroken, Given, Judged, Kept, Lowest, Sound, asked, given, sound, Verdict}
use Rattle.refusal.specs.declared.Refusal.{Refusal}
use Rattle.refusal.specs.Numbers.{number_of}
use Rattle.std.specs.Prelude.{None, Option, Some}
use Rattle.refusal.specs.helpers.Answers.{Finds}

-- The two rows have one number, the same places, and the same rule at each.
pub record SameAsk (a b : Ask) : Type 0 where
  pub number : a.number ≡ b.number
  pub to : (x : ℕ) → a.Place x → b.Place x
  pub back : (x : ℕ) → b.Place x → a.Place x
  pub up : (x : ℕ) → a.Place x → a.Rule x → b.Rule x
  pub down : (x : ℕ) → a.Place x → b.Rule x → a.Rule x

-- The rows are the same one by one, xs far xs those before are kept.
abbrev pub SameRows : List Ask → List Ask → Type 0
SameRows [] [] = Unit {0}
SameRows [] (b ∷ ys) = ⊥
SameRows (a ∷ xs) [] = ⊥
SameRows (a ∷ xs) (b ∷ ys) = SameAsk a b × (Kept a → SameRows xs ys)

-- A rule of the whole that says the same.
pub asked_same : {k : ℕ} {P Q : Type 0} → (P → Q) → (Q → P) → SameAsk (asked k P) (asked k Q)
asked_same f g = record { number = refl; to = λ x e. e; back = λ x e. e; up = λ x e. f; down = λ x e. g }

module _ {a b : Ask} (s : SameAsk a b) where
  pub kept_same : Kept a → Kept b
  kept_same h x p = s.up x (s.back x p) (h x (s.back x p))

  pub lowest_same : (x : ℕ) → Lowest a x → Lowest b x
  lowest_same x h =
      record {
        place = s.to x h.place;
        broken = λ r. h.broken (s.down x h.place r);
        lower = λ y l p. let q = s.back y p in s.up y q (h.lower y l q);
      }

  pub finds_same : (r : Option ℕ) → Finds a r → Finds b r
  finds_same (Some x) h = lowest_same x h
  finds_same None h = kept_same h

all_same : (xs ys : List Ask) → SameRows xs ys → AllKept xs → AllKept ys
all_same [] [] s h = tt
all_same [] (b ∷ ys) s h = absurd s
all_same (a ∷ xs) [] s h = absurd s
all_same (a ∷ xs) (b ∷ ys) s h = (kept_same s.0 h.0, all_same xs ys (s.1 h.0) h.1)

first_same : (xs ys : List Ask) (k x : ℕ) → SameRows xs ys → FirstBroken xs k x → FirstBroken ys k x
first_same [] ys k x s h = absurd h
first_same (a ∷ xs) [] k x s h = absurd s
first_same (a ∷ xs) (b ∷ ys) k x s (inl h) = inl (sym s.0.number ∙ h.0, lowest_same s.0 x h.1)
first_same (a ∷ xs) (b ∷ ys) k x s (inr h) = inr (kept_same s.0 h.0, first_same xs ys k x (s.1 h.0) h.1)

module _ (xs ys : List Ask) (s : SameRows xs ys) where
  pub sound_same : Sound xs → Sound ys
  sound_same h = record { kept = all_same xs ys s h.kept }

  pub given_same : {r : Refusal} → Given xs r → Given ys r
  given_same {r} h = record { first = first_same xs ys (number_of r.reason) r.place s h.first }

  pub judged_same : {v : Verdict} → Judged xs v → Judged ys v
  judged_same (sound h) = sound (sound_same h)
  judged_same (given h) = given (given_same h)
