-- A number in decimal digits, as bytes.
use Rattle.std.specs.Prelude.{cond, ℕ, zero, suc, ◌+◌, ◌/◌, ◌%◌, List, [], ◌∷◌, ◌++◌, ltb}

-- the digits of n, of which there are at most suc fuel: those of its tenth, then the last
unfoldable pub digits_by : ℕ → ℕ → List ℕ
digits_by zero n = (48 + n) ∷ []
digits_by (suc fuel) n = cond (ltb n 10) ((48 + n) ∷ []) (digits_by fuel (n / 10) ++ ((48 + n % 10) ∷ []))

-- the decimal digits of n, as bytes: n has at most n of them, and 0 has one
unfoldable pub digits : ℕ → List ℕ
digits n = digits_by n n
