-- What the marks of row 7's search mean.
use Rattle.std.specs.Prelude.{ℕ, ◌≤◌, ◌≡◌, List}
use Rattle.marked.specs.Net.{at}
use Rattle.net.specs.Rules.{Touched}

-- Exactly the nodes that are an end of one of the first e edges are marked 1.
pub record Ticks (e : ℕ) (ends seen : List ℕ) : Type 0 where
  pub sound : (n : ℕ) → at seen n ≡ 1 → Touched e (at ends) n
  pub whole : (n : ℕ) → Touched e (at ends) n → at seen n ≡ 1

-- With out 1 where an edge leaves node x, and into 1 where one enters it, the node is linked.
pub record Bound (n x out into : ℕ) : Type 0 where
  pub leaves : x ≤ n → out ≡ 1
  pub enters : 1 ≤ x → into ≡ 1
