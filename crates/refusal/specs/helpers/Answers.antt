-- What the test of a rule and the search of a row answer.
use Rattle.std.specs.Prelude.{Bool, false, true, ℕ, Option, Some, None}
use Rattle.refusal.specs.Asking.{Ask, Kept, Lowest}

-- The answer of a test: true where P holds, false where it does not.
pub data Says (P : Type 0) : Bool → Type 0 where
  holds : P → Says P true
  fails : (P → ⊥) → Says P false

-- A search finds the lowest place at which a row is broken, or that it is kept.
abbrev pub Finds : Ask → Option ℕ → Type 0
Finds a (Some x) = Lowest a x
Finds a None = Kept a
