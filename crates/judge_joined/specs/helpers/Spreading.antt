-- What the marks of row 8's search mean.
use Rattle.std.specs.Prelude.{ℕ, suc, ◌≤◌, ◌<◌, ◌≡◌, Bool, true, false, List, [], ◌∷◌, get_or, length}
use Rattle.net.specs.Limits.{most_nodes}
use Rattle.marked.specs.Net.{at}
use Rattle.net.specs.Plan.{Joined, wires}

-- Node n is marked.
abbrev pub Met : List Bool → ℕ → Type 0
Met seen n = get_or seen n false ≡ true

-- Marks so far: the source is marked, and whatever is marked is joined to it.
pub record Reached (e : ℕ) (from to : List ℕ) (seen : List Bool) : Type 0 where
  pub long : length seen ≡ most_nodes
  pub start : Met seen 0
  pub sound : (n : ℕ) → Met seen n → Joined (wires 0 e from to) n

-- The marks do not tell the two ends of edge k apart.
abbrev pub Even : List ℕ → List ℕ → List Bool → ℕ → Type 0
Even from to seen k = get_or seen (at from k) false ≡ get_or seen (at to k) false

-- How many nodes are not marked.
unfoldable pub missing : List Bool → ℕ
missing [] = 0
missing (false ∷ xs) = suc (missing xs)
missing (true ∷ xs) = missing xs

-- What one edge does to the marks: `was` and `now` say whether a node has been marked, before and after it.
pub record Spread (e : ℕ) (from to : List ℕ) (k : ℕ) (old : List Bool) (was : Bool) (new : List Bool) (now : Bool) : Type 0 where
  pub reached : Reached e from to new
  pub fewer : missing new ≤ missing old
  pub grows : was ≡ false → now ≡ true → missing new < missing old
  pub still : now ≡ false → (was ≡ false) × (new ≡ old) × Even from to new k

-- What the first k edges do to the marks, in one pass: a node has been marked, or nothing has changed and the edges passed are even.
pub record Passed (e : ℕ) (from to : List ℕ) (k : ℕ) (old new : List Bool) (now : Bool) : Type 0 where
  pub reached : Reached e from to new
  pub grows : now ≡ true → missing new < missing old
  pub still : now ≡ false → (new ≡ old) × ((j : ℕ) → j < k → Even from to new j)

-- What edges taken in any order do to the marks.
pub record Led (e : ℕ) (from to : List ℕ) (old new : List Bool) : Type 0 where
  pub reached : Reached e from to new
  pub fewer : missing new ≤ missing old

-- Exactly the nodes that are joined to the source are marked.
pub record Marks (e : ℕ) (from to : List ℕ) (seen : List Bool) : Type 0 where
  pub sound : (n : ℕ) → Met seen n → Joined (wires 0 e from to) n
  pub whole : (n : ℕ) → Joined (wires 0 e from to) n → Met seen n
