-- Sums over a list, and over the numbers below a bound.
use Rattle.std.specs.Prelude.{List, [], ◌∷◌, ◌+◌, suc, zero, ℕ}

-- The sum of f over a list.
unfoldable pub sum : (ℕ → ℕ) → List ℕ → ℕ
sum f [] = 0
sum f (p ∷ ps) = f p + sum f ps

-- The sum of the entries of a list.
abbrev pub total : List ℕ → ℕ
total xs = sum (λ (x : ℕ). x) xs

-- The sum of x over the numbers below n.
unfoldable pub upto : (ℕ → ℕ) → ℕ → ℕ
upto x zero = 0
upto x (suc n) = x n + upto x n
