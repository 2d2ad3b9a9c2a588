-- Rows 5 to 9 of the refusal table, each with one definition:
-- what must hold of each operation, edge, node or transition of a plan.
use Rattle.std.specs.Prelude.{ℕ, ◌+◌, ◌≤◌, ◌<◌, ◌≡◌, List, [], ◌∷◌}
use Rattle.refusal.specs.Asking.{Ask, asked_of}
use Rattle.marked.specs.Net.{tokens}
use Rattle.marked.specs.Circuits.{Circuit}
use Rattle.net.specs.Limits.{Duration, Within}
use Rattle.net.specs.Plan.{Joined, Plan}
use Rattle.net.specs.Graph.{net_of, start_of}

-- The operations, from 1 to N.
abbrev pub Operation : Plan → ℕ → Type 0
Operation g i = Within 1 g.operations i

-- The edges, from 0.
abbrev pub Edge : Plan → ℕ → Type 0
Edge g e = e < g.edges

-- The nodes: the source, 0, the operations, and the sink, N + 1.
abbrev pub Node : Plan → ℕ → Type 0
Node g n = n ≤ g.operations + 1

-- The transitions of the computational graph, 3N + 2 of them.
abbrev pub Transition : Plan → ℕ → Type 0
Transition g t = t < (net_of g).transitions

-- 5: an operation's time is within its limits.
abbrev pub Timely : Plan → ℕ → Type 0
Timely g i = Duration (g.time i)

-- The four bytes of an edge's row are allowed in a graph of n operations: from, to, mark, and a zero byte.
pub record RowAllowed (n from to mark fourth : ℕ) : Type 0 where
  pub leaves : from ≤ n
  pub enters : Within 1 (n + 1) to
  pub marked : mark ≤ 1
  pub zero_byte : fourth ≡ 0

-- 6: an edge's from, to, mark and fourth byte are allowed.
abbrev pub Allowed : Plan → ℕ → Type 0
Allowed g e = RowAllowed g.operations (g.from e) (g.to e) (g.mark e) (g.buffers e)

-- Some edge has node n as the end that is asked for: its from, or its to.
pub record Touched (edges : ℕ) (end : ℕ → ℕ) (n : ℕ) : Type 0 where
  pub edge : ℕ
  pub inside : edge < edges
  pub there : end edge ≡ n

-- Node v has its edges among those of n operations: every node but the sink has one out, and every node but the source has one in.
pub record NodeLinked (n edges : ℕ) (from to : ℕ → ℕ) (v : ℕ) : Type 0 where
  pub out : v ≤ n → Touched edges from v
  pub into : 1 ≤ v → Touched edges to v

-- 7: a node has its edges.
abbrev pub Linked : Plan → ℕ → Type 0
Linked g v = NodeLinked g.operations g.edges g.from g.to v

-- 9: every directed circuit of the computational graph through transition t has a token at the start.
abbrev pub Alive : Plan → ℕ → Type 0
Alive g t = (ring : List ℕ) → Circuit (net_of g) t ring → 1 ≤ tokens (start_of g) ring

-- Row 5, of each operation.
abbrev pub row5 : Plan → Ask
row5 g = asked_of 5 (Operation g) (Timely g)

-- Row 6, of each edge.
abbrev pub row6 : Plan → Ask
row6 g = asked_of 6 (Edge g) (Allowed g)

-- Row 7, of each node.
abbrev pub row7 : Plan → Ask
row7 g = asked_of 7 (Node g) (Linked g)

-- Row 8, of each node: it is joined to the source, edge directions ignored.
abbrev pub row8 : Plan → Ask
row8 g = asked_of 8 (Node g) (Joined g)

-- Row 9, of each transition.
abbrev pub row9 : Plan → Ask
row9 g = asked_of 9 (Transition g) (Alive g)

-- The rows of a graph, in order.
abbrev pub graph_rows : Plan → List Ask
graph_rows g = row5 g ∷ row6 g ∷ row7 g ∷ row8 g ∷ row9 g ∷ []
