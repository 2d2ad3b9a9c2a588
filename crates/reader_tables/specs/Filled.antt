-- What it means that an array holds so many numbers of a table.
use Rattle.std.specs.Prelude.{ℕ, ◌≤◌, ◌<◌, ◌≡◌, List, length}
use Rattle.marked.specs.Net.{at}

-- xs has room entries: the first n are the values of h, and the others are 0.
pub record Filled (n room : ℕ) (h : ℕ → ℕ) (xs : List ℕ) : Type 0 where
  pub long : length xs ≡ room
  pub used : (i : ℕ) → i < n → at xs i ≡ h i
  pub unused : (i : ℕ) → n ≤ i → at xs i ≡ 0
