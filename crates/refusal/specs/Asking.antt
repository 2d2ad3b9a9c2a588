-- What a list of refusals means. Rows are asked in order; each has its number, and asks a rule of each of its places.
-- The first row that is broken is given, at its lowest place.
use Rattle.std.specs.Prelude.{ℕ, ◌<◌, ◌≡◌, ◌⊎◌, List, [], ◌∷◌, Result, Ok, Err, ⊤}
use Rattle.refusal.specs.Numbers.{number_of}
use Rattle.refusal.specs.declared.Refusal.{Refusal}

-- A row: its number, and a rule of each place of a kind.
pub record Ask : Type 1 where
  pub number : ℕ
  pub Place : ℕ → Type 0
  pub Rule : ℕ → Type 0

-- A rule of the whole: its one place is 0.
abbrev pub asked : ℕ → Type 0 → Ask
asked k Rule = record { number = k; Place = λ (x : ℕ). x ≡ 0; Rule = λ (x : ℕ). Rule }

-- A rule of each place of a kind.
abbrev pub asked_of : ℕ → (ℕ → Type 0) → (ℕ → Type 0) → Ask
asked_of k Place Rule = record { number = k; Place = Place; Rule = Rule }

-- The row is kept: its rule holds at each of its places.
abbrev pub Kept : Ask → Type 0
Kept a = (x : ℕ) → a.Place x → a.Rule x

-- x is the lowest place at which the row is broken.
pub record Lowest (a : Ask) (x : ℕ) : Type 0 where
  pub place : a.Place x
  pub broken : a.Rule x → ⊥
  pub lower : (y : ℕ) → y < x → a.Place y → a.Rule y

-- Every row is kept.
abbrev pub AllKept : List Ask → Type 0
AllKept [] = Unit {0}
AllKept (a ∷ rows) = Kept a × AllKept rows

-- The first row that is broken has number k, and x is its lowest place; every row before it is kept.
abbrev pub FirstBroken : List Ask → ℕ → ℕ → Type 0
FirstBroken [] k x = ⊥
FirstBroken (a ∷ rows) k x = ((a.number ≡ k) × Lowest a x) ⊎ (Kept a × FirstBroken rows k x)

-- No refusal is given.
pub record Sound (rows : List Ask) : Type 0 where
  pub kept : AllKept rows

-- The refusal r is given.
pub record Given (rows : List Ask) (r : Refusal) : Type 0 where
  pub first : FirstBroken rows (number_of r.reason) r.place

-- Accepted, or refused.
abbrev pub Verdict : Type 0
Verdict = Result ⊤ Refusal

-- The verdict of the rows: accepted where all are kept, else the refusal that is given.
pub data Judged (rows : List Ask) : Verdict → Type 0 where
  sound : Sound rows → Judged rows (Ok tt)
  given : {r : Refusal} → Given rows r → Judged rows (Err r)
