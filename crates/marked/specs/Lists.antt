-- Lists of numbers: what holds of every entry, and lists without a repetition.
use Rattle.std.specs.Prelude.{◌≢◌, List, [], ◌∷◌, ℕ}

-- P holds of every entry.
abbrev pub All : (ℕ → Type 0) → List ℕ → Type 0
All P [] = Unit {0}
All P (x ∷ xs) = P x × All P xs

-- x is no entry.
abbrev pub Avoids : ℕ → List ℕ → Type 0
Avoids x xs = All (λ (y : ℕ). x ≢ y) xs

-- No number stands twice.
abbrev pub Distinct : List ℕ → Type 0
Distinct [] = Unit {0}
Distinct (x ∷ xs) = Avoids x xs × Distinct xs
