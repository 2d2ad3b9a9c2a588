-- The last sink to be reached, as the finishes tell it.
use Rattle.std.specs.Prelude.{◌≡◌, ◌⊎◌, List, ◌+◌, ◌<◌, ◌≤◌, ℕ}
use Rattle.marked.specs.Net.{at}

-- r is the largest entry of the data sink and of the origins of the marked edges among the first k.
pub record Latest (n : ℕ) (from mark finish : List ℕ) (k r : ℕ) : Type 0 where
  pub sink : at finish (n + 1) ≤ r
  pub fresh : (j : ℕ) → j < k → 1 ≤ at mark j → at finish (at from j) ≤ r
  pub is : (r ≡ at finish (n + 1)) ⊎ ((j : ℕ) × (j < k) × (1 ≤ at mark j) × (r ≡ at finish (at from j)))
