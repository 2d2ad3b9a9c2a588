-- The modified graph of 000, Definition 12, and its paths. Its nodes are those of the graph, 0 to N + 1, and a fresh sink N + 2 + e for each marked edge e.
use Rattle.std.specs.Prelude.{◌≡◌, List, [], ◌∷◌, ◌+◌, ◌<◌, ◌≤◌, ℕ, leb, ltb}
use Rattle.marked.specs.Sums.{sum}
use Rattle.net.specs.Plan.{Plan}
use Rattle.net.specs.Ends.{pick}

-- An edge of the modified graph. An unmarked edge stays. A marked one is removed: an edge from the source to its target, and an edge from its origin
-- to its fresh sink, are added.
pub data Link (g : Plan) : ℕ → ℕ → Type 0 where
  stays : (e : ℕ) → e < g.edges → g.mark e ≡ 0 → Link g (g.from e) (g.to e)
  begins : (e : ℕ) → e < g.edges → 1 ≤ g.mark e → Link g 0 (g.to e)
  ends : (e : ℕ) → e < g.edges → 1 ≤ g.mark e → Link g (g.from e) (g.operations + 2 + e)

-- A path of the modified graph from one node to another, and the nodes that it comes to, in order. (In an accepted graph none comes to a node twice:
-- law `path_distinct`.)
pub data Path (g : Plan) : ℕ → ℕ → List ℕ → Type 0 where
  stop : {a : ℕ} → Path g a a []
  go : {a b c : ℕ} {ns : List ℕ} → Link g a b → Path g b c ns → Path g a c (b ∷ ns)

-- The time of node v among n operations: an operation's own; the source and the sinks take none.
unfoldable pub node_time : ℕ → (ℕ → ℕ) → ℕ → ℕ
node_time n time v = pick (ltb 0 v) (pick (leb v n) (time v) 0) 0

-- The sum of operation times on the nodes of a path.
abbrev pub path_time : Plan → List ℕ → ℕ
path_time g ns = sum (node_time g.operations g.time) ns
