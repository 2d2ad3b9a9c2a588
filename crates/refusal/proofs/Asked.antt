-- Rows asked one after the other: how what a test or a search answers decides a list of rows.
use mathlib.Core.Path.{◌≡◌, refl, subst, sym}
use mathlib.Core.Logic.{inl, inr}
use mathlib.Core.List.{List, [], ◌++◌, ◌∷◌}
use Prim.Native.Nat.{ℕ}
use native.Mathlib.Omega.{arith}
use Rattle.refusal.specs.Asking.{AllKept, Ask, FirstBroken, Given, Judged, Kept, Lowest, Sound, asked, given, sound, Verdict}
use Rattle.refusal.specs.helpers.Answers.{Finds}
use Rattle.std.specs.Prelude.{None, Option, Some}
use Rattle.refusal.specs.declared.Refusal.{Refusal}
use Rattle.refusal.specs.Numbers.{number_of}
use Rattle.std.specs.Prelude.{Err, Ok}

-- A rule of the whole that fails is broken at 0.
pub lowest_whole : {k : ℕ} {P : Type 0} → (P → ⊥) → Lowest (asked k P) 0
lowest_whole f = record { place = refl; broken = f; lower = λ y l e. absurd (omega arith) }

-- No row at all refuses nothing.
pub sound_none : Sound []
sound_none = record { kept = tt }

-- The first row is broken: its refusal is given.
pub given_here : {a : Ask} {rows : List Ask} (r : Refusal) → a.number ≡ (number_of r.reason) → Lowest a r.place → Given (a ∷ rows) r
given_here r e p = record { first = inl (e, p) }

-- A verdict that tells the refusal that is given.
pub judged_refused : {rows : List Ask} {v : Verdict} (r : Refusal) → v ≡ Err r → Given rows r → Judged rows v
judged_refused {rows} r e p = subst (λ (w : Verdict). Judged rows w) (sym e) (given p)

-- What a known verdict gives.
pub judged_sound : {rows : List Ask} → Judged rows (Ok tt) → Sound rows
judged_sound (sound p) = p

pub judged_given : {rows : List Ask} {r : Refusal} → Judged rows (Err r) → Given rows r
judged_given (given p) = p

-- The first row is kept: what follows decides.
pub given_next : {a : Ask} {rows : List Ask} {r : Refusal} → Kept a → Given rows r → Given (a ∷ rows) r
given_next p q = record { first = inr (p, q.first) }

pub sound_next : {a : Ask} {rows : List Ask} → Kept a → Sound rows → Sound (a ∷ rows)
sound_next p q = record { kept = (p, q.kept) }

pub judged_next : {a : Ask} {rows : List Ask} {v : Verdict} → Kept a → Judged rows v → Judged (a ∷ rows) v
judged_next p (sound q) = sound (sound_next p q)
judged_next p (given q) = given (given_next p q)

-- Two lists of rows, one after the other: the first refuses,
pub given_first : (rows more : List Ask) {r : Refusal} → Given rows r → Given (rows ++ more) r
given_first rows more {r} p = record { first = go rows p.first }
  where
    go : (rows : List Ask) → FirstBroken rows (number_of r.reason) r.place → FirstBroken (rows ++ more) (number_of r.reason) r.place
    go [] p = absurd p
    go (a ∷ rows) (inl p) = inl p
    go (a ∷ rows) (inr p) = inr (p.0, go rows p.1)

-- or it is sound and the second decides.
pub judged_after : (rows more : List Ask) {v : Verdict} → Sound rows → Judged more v → Judged (rows ++ more) v
judged_after rows more {v} p q = go rows p.kept
  where
    go : (rows : List Ask) → AllKept rows → Judged (rows ++ more) v
    go [] p = q
    go (a ∷ rows) p = judged_next p.0 (go rows p.1)

-- What is sound together is sound apart.
pub sound_parts : (rows more : List Ask) → Sound (rows ++ more) → Sound rows × Sound more
sound_parts [] more p = (sound_none, p)
sound_parts (a ∷ rows) more p = rest (sound_parts rows more (record { kept = p.kept.1 }))
  where
    rest : Sound rows × Sound more → Sound (a ∷ rows) × Sound more
    rest q = (sound_next p.kept.0 q.0, q.1)

-- What a search answers, where it is known: the row's lowest place, and so its refusal,
pub found_at : (a : Ask) (r : Option ℕ) {x : ℕ} → r ≡ Some x → Finds a r → Lowest a x
found_at a r e h = subst (Finds a) e h

-- or that the row is kept.
pub found_none : (a : Ask) (r : Option ℕ) → r ≡ None → Finds a r → Kept a
found_none a r e h = subst (Finds a) e h
