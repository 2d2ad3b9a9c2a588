-- A graph as numbers, from wherever they are read: what is said of operations, edges and nodes.
use Rattle.std.specs.Prelude.{◌≡◌, List, [], ◌-◌, ◌<◌, ℕ}
use Rattle.marked.specs.Net.{at}
use Rattle.net.specs.Limits.{Within}

-- A graph: operations 1 to N with their times, edges 0 to E - 1 with the four bytes of their rows. Node 0 is the source, node N + 1 the sink.
pub record Plan : Type 0 where
  pub operations : ℕ
  pub edges : ℕ
  pub time : ℕ → ℕ
  pub from : ℕ → ℕ
  pub to : ℕ → ℕ
  pub mark : ℕ → ℕ
  pub buffers : ℕ → ℕ

-- The time of operation i, from a list of the times of operations 1, 2, ..
abbrev pub time_at : List ℕ → ℕ → ℕ
time_at times i = at times (i - 1)

-- The plan of rows: times holds the times of operations 1, 2, ..; from, to, mark and buffers hold those of edges 0, 1, ..
abbrev pub rows : ℕ → ℕ → List ℕ → List ℕ → List ℕ → List ℕ → List ℕ → Plan
rows n e times from to mark buffers =
    record { operations = n; edges = e; time = time_at times; from = at from; to = at to; mark = at mark; buffers = at buffers }

-- The plan of rows that tell only where edges run.
abbrev pub wires : ℕ → ℕ → List ℕ → List ℕ → Plan
wires n e from to = rows n e [] from to [] []

-- A node is joined to node 0 by edges that run between `from` and `to`, edge directions ignored.
pub data JoinedBy (edges : ℕ) (from to : ℕ → ℕ) : ℕ → Type 0 where
  source : JoinedBy edges from to 0
  along : (e : ℕ) → e < edges → JoinedBy edges from to (from e) → JoinedBy edges from to (to e)
  against : (e : ℕ) → e < edges → JoinedBy edges from to (to e) → JoinedBy edges from to (from e)

-- A node is joined to the source.
abbrev pub Joined : Plan → ℕ → Type 0
Joined g a = JoinedBy g.edges g.from g.to a

-- Two plans agree in all that is asked of them.
pub record Agree (p q : Plan) : Type 0 where
  pub operations : p.operations ≡ q.operations
  pub edges : p.edges ≡ q.edges
  pub time : (i : ℕ) → Within 1 p.operations i → p.time i ≡ q.time i
  pub from : (e : ℕ) → e < p.edges → p.from e ≡ q.from e
  pub to : (e : ℕ) → e < p.edges → p.to e ≡ q.to e
  pub mark : (e : ℕ) → e < p.edges → p.mark e ≡ q.mark e
  pub buffers : (e : ℕ) → e < p.edges → p.buffers e ≡ q.buffers e
