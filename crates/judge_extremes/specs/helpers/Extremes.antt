-- A bound for the first entries of a row.
use Rattle.std.specs.Prelude.{ℕ, ◌≤◌, ◌<◌, List}
use Rattle.marked.specs.Net.{at}

-- None of the first e entries is above m.
pub record NoneAbove (e : ℕ) (row : List ℕ) (m : ℕ) : Type 0 where
  pub above : (k : ℕ) → k < e → at row k ≤ m

-- None of the first e entries is below m.
pub record NoneBelow (e : ℕ) (row : List ℕ) (m : ℕ) : Type 0 where
  pub below : (k : ℕ) → k < e → m ≤ at row k
