-- How a circuit is written, lowest place first, and the dictionary order of lists of places.
use Rattle.std.specs.Prelude.{List, [], ◌∷◌, ◌<◌, ◌≤◌, ℕ}
use Rattle.marked.specs.Lists.{All}

-- No entry is lower than the first.
abbrev pub LowestFirst : List ℕ → Type 0
LowestFirst [] = Unit {0}
LowestFirst (p ∷ ps) = All (λ (q : ℕ). p ≤ q) ps

-- ps stands before qs: at the first position where they differ it has the lower place.
pub data Before : List ℕ → List ℕ → Type 0 where
  lower : {p q : ℕ} {ps qs : List ℕ} → p < q → Before (p ∷ ps) (q ∷ qs)
  later : {p : ℕ} {ps qs : List ℕ} → Before ps qs → Before (p ∷ ps) (p ∷ qs)
