-- One list of rows gives one verdict.
use mathlib.Core.Path.{◌≡◌, ap, refl}
use mathlib.Core.Logic.{inl, inr}
use mathlib.Core.List.{List, [], ◌∷◌}
use Prim.Native.Nat.{ℕ}
use native.Mathlib.Omega.{arith}
use native.Mathlib.Decide.{dec_lt}
use Rattle.refusal.specs.Asking.{AllKept, Ask, FirstBroken, Given, Judged, Lowest, Sound, given, sound, Verdict}
use Rattle.refusal.specs.declared.Refusal.{Refusal}
use Rattle.refusal.specs.Numbers.{number_of}
use Rattle.refusal.proofs.Numbers.{number_injective}
use Rattle.std.specs.Prelude.{Err}

-- A row has one lowest place.
pub lowest_unique : {a : Ask} {x y : ℕ} → Lowest a x → Lowest a y → x ≡ y
lowest_unique {a} {x} {y} p q = elim (dec_lt x y) [
  | yes l ↦ absurd (p.broken (q.lower x l p.place))
  | no l ↦ elim (dec_lt y x) [
    | yes k ↦ absurd (q.broken (p.lower y k q.place))
    | no k ↦ omega arith
  ]
]

-- Two first broken rows have one number and one place.
first_unique : (rows : List Ask) (k j x y : ℕ) → FirstBroken rows k x → FirstBroken rows j y → (k ≡ j) × (x ≡ y)
first_unique [] k j x y p q = absurd p
first_unique (a ∷ rows) k j x y (inl p) (inl q) = (omega (arith, p.0, q.0), lowest_unique p.1 q.1)
first_unique (a ∷ rows) k j x y (inl p) (inr q) = absurd (p.1.broken (q.0 x p.1.place))
first_unique (a ∷ rows) k j x y (inr p) (inl q) = absurd (q.1.broken (p.0 y q.1.place))
first_unique (a ∷ rows) k j x y (inr p) (inr q) = first_unique rows k j x y p.1 q.1

-- Rows that are all kept have no broken one.
kept_none : (rows : List Ask) (k x : ℕ) → AllKept rows → FirstBroken rows k x → ⊥
kept_none [] k x p q = q
kept_none (a ∷ rows) k x p (inl q) = q.1.broken (p.0 x q.1.place)
kept_none (a ∷ rows) k x p (inr q) = kept_none rows k x p.1 q.1

-- One refusal is given,
pub given_unique : {rows : List Ask} {r s : Refusal} → Given rows r → Given rows s → r ≡ s
given_unique {rows} {r} {s} p q =
    let e = first_unique rows (number_of r.reason) (number_of s.reason) r.place s.place p.first q.first in
    let f = number_injective e.0 in
    λ i. record { reason = f i; place = e.1 i }

-- and none where all are kept.
pub sound_not_given : {rows : List Ask} {r : Refusal} → Sound rows → Given rows r → ⊥
sound_not_given {rows} {r} p q = kept_none rows (number_of r.reason) r.place p.kept q.first

-- So the verdict is one.
pub verdict_determined : {rows : List Ask} {v w : Verdict} → Judged rows v → Judged rows w → v ≡ w
verdict_determined (sound p) (sound q) = refl
verdict_determined (sound p) (given q) = absurd (sound_not_given p q)
verdict_determined (given p) (sound q) = absurd (sound_not_given q p)
verdict_determined (given p) (given q) = ap (λ r. Err r) (given_unique p q)
