-- A fraction in lowest terms.
use Rattle.std.specs.Prelude.{ℕ}
use Rattle.marked.specs.Bounds.{Reduced, SameRatio}

-- c / e is the fraction a / b in lowest terms.
pub record InLowest (a b c e : ℕ) : Type 0 where
  pub same : SameRatio a b c e
  pub reduced : Reduced c e
