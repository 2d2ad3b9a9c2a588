-- What the program builds its rows from.
use Rattle.std.specs.Prelude.{◌≡◌, List, ◌<◌, ◌≤◌, ℕ, length}
use Rattle.marked.specs.Net.{at}

-- r lies between least and most.
pub record Held (least most r : ℕ) : Type 0 where
  pub low : least ≤ r
  pub high : r ≤ most

-- Each of the 128 entries lies between least and most.
pub record Column (least most : ℕ) (xs : List ℕ) : Type 0 where
  pub long : length xs ≡ 128
  pub each : (k : ℕ) → k < 128 → Held least most (at xs k)
