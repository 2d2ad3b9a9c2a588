-- The places that a sweep tries, item by item.
use Rattle.std.specs.Prelude.{◌⊎◌, List, ◌*◌, ◌+◌, ◌-◌, ◌<◌, ◌≤◌, ℕ}
use Rattle.marked.specs.Net.{at}
use Rattle.net.specs.Limits.{most_edges}

-- p is one of the places from q to r.
abbrev pub Between : ℕ → ℕ → ℕ → Type 0
Between q r p = (q ≤ p) × (p < r)

-- p is a place of the item x.
abbrev pub Of : ℕ → ℕ → ℕ → Type 0
Of n x p = ((x < most_edges) × Between (3 * n + 2 * x) (3 * n + 2 * x + 2) p) ⊎ ((most_edges ≤ x) × Between (3 * (x - most_edges)) (3 * (x - most_edges) + 3) p)

-- p is a place of one of the first j items of a list.
abbrev pub Among : ℕ → List ℕ → ℕ → ℕ → Type 0
Among n ord j p = (i : ℕ) × (i < j) × Of n (at ord i) p

-- p is a place of a net with that many.
abbrev pub Every : ℕ → ℕ → Type 0
Every places p = p < places
