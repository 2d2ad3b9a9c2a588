-- The limits of a graph, by name: what the refusals test.
use Rattle.std.specs.Prelude.{ℕ, ◌≤◌}

-- n lies from low to high.
pub record Within (low high n : ℕ) : Type 0 where
  pub low_met : low ≤ n
  pub high_met : n ≤ high

-- The most operations.
abbrev pub most_operations : ℕ
most_operations = 40

-- The most edges.
abbrev pub most_edges : ℕ
most_edges = 128

-- The most nodes: source, operations and sink.
abbrev pub most_nodes : ℕ
most_nodes = 42

-- The longest time of an operation, in units.
abbrev pub longest_time : ℕ
longest_time = 1000000

-- The most transitions of a computational graph, 3N + 2.
abbrev pub most_transitions : ℕ
most_transitions = 122

-- The most places of a computational graph, 3N + 2E.
abbrev pub most_places : ℕ
most_places = 376

-- The operations of a graph, N: 1 at least.
abbrev pub OperationCount : ℕ → Type 0
OperationCount n = Within 1 most_operations n

-- The edges of a graph, E: 2 at least.
abbrev pub EdgeCount : ℕ → Type 0
EdgeCount e = Within 2 most_edges e

-- An operation's time: 1 unit at least.
abbrev pub Duration : ℕ → Type 0
Duration t = Within 1 longest_time t

-- N and E are within their limits.
pub record Counted (n e : ℕ) : Type 0 where
  pub operations : OperationCount n
  pub edges : EdgeCount e
