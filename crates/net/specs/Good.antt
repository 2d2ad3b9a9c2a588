-- A good graph: what the reader grants of every graph that it accepts, told of the rows that the code is lent. It is all that the crates above lean on.
use Rattle.std.specs.Prelude.{List, ℕ, ◌+◌, ◌≤◌, ◌<◌}
use Rattle.marked.specs.Net.{at}
use Rattle.marked.specs.Circuits.{Live}
use Rattle.net.specs.Limits.{most_edges, most_operations}
use Rattle.net.specs.Plan.{Joined, rows}
use Rattle.net.specs.Graph.{net_of, start_of}
use Rattle.net.specs.Rules.{Linked, Node, Operation, Timely}

-- Counts within their limits, and each edge runs from a node that may be left to one that may be entered (refusals 3 and 6).
pub record Wired (n e : ℕ) (from to : List ℕ) : Type 0 where
  pub some : 1 ≤ n
  pub operations : n ≤ most_operations
  pub edges : e ≤ most_edges
  pub leaves : (k : ℕ) → k < e → at from k ≤ n
  pub enters : (k : ℕ) → k < e → 1 ≤ at to k
  pub ends : (k : ℕ) → k < e → at to k ≤ n + 1

-- Counts within their limits, and every mark is 0 or 1 (refusals 3 and 6).
pub record Marked (n e : ℕ) (mark : List ℕ) : Type 0 where
  pub operations : n ≤ most_operations
  pub edges : e ≤ most_edges
  pub single : (k : ℕ) → k < e → at mark k ≤ 1

-- The graph keeps every limit, is linked and joined, and starts with a token on every circuit.
pub record Good (n e : ℕ) (times from to mark buffers : List ℕ) : Type 0 where
  pub wired : Wired n e from to
  pub marked : Marked n e mark
  pub timely : (i : ℕ) → Operation (rows n e times from to mark buffers) i → Timely (rows n e times from to mark buffers) i
  pub linked : (v : ℕ) → Node (rows n e times from to mark buffers) v → Linked (rows n e times from to mark buffers) v
  pub joined : (v : ℕ) → Node (rows n e times from to mark buffers) v → Joined (rows n e times from to mark buffers) v
  pub live : Live (net_of (rows n e times from to mark buffers)) (start_of (rows n e times from to mark buffers))
