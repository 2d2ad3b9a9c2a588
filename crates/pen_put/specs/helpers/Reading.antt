-- How digit bytes are read: the words of the laws that a number's text reads back as the number.
use Rattle.std.specs.Prelude.{ℕ, ◌+◌, ◌*◌, ◌-◌, ◌≤◌, List, [], ◌∷◌}

-- the number that digit bytes say, read from the left after the number v
abbrev pub reads_on : ℕ → List ℕ → ℕ
reads_on v [] = v
reads_on v (d ∷ ds) = reads_on (v * 10 + (d - 48)) ds

-- the number that digit bytes say
abbrev pub reads : List ℕ → ℕ
reads ds = reads_on 0 ds

-- each byte is a decimal digit's
abbrev pub Decimal : List ℕ → Type 0
Decimal [] = Unit {0}
Decimal (d ∷ ds) = (48 ≤ d) × (d ≤ 57) × Decimal ds
