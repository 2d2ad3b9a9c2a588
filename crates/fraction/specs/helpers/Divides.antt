-- What Euclid's algorithm finds.
use Rattle.std.specs.Prelude.{◌*◌, ◌≤◌, ℕ}
use Rattle.std.specs.Int.{◌∣◌}

-- r divides a and b, and whatever divides a multiple of each, the same times over, divides that multiple of r.
pub record Divisor (a b r : ℕ) : Type 0 where
  pub some : 1 ≤ r
  pub above : r ∣ a
  pub below : r ∣ b
  pub most : (m k : ℕ) → m ∣ a * k → m ∣ b * k → m ∣ r * k
