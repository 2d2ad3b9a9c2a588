-- Edges whose ends there is room for.
use Rattle.std.specs.Prelude.{ℕ, ◌≤◌, ◌<◌, List}
use Rattle.net.specs.Limits.{most_edges, most_nodes}
use Rattle.marked.specs.Net.{at}

-- Each of the first e entries is a node that some graph may have: there is room for it among the marks.
abbrev pub Roomy : ℕ → List ℕ → Type 0
Roomy e ends = (k : ℕ) → k < e → at ends k < most_nodes

-- At most 128 edges, and their ends are such nodes.
pub record Ended (e : ℕ) (from to : List ℕ) : Type 0 where
  pub edges : e ≤ most_edges
  pub leaves : Roomy e from
  pub enters : Roomy e to
