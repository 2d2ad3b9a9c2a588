-- The computational graph as the code is lent it: the rows of the edges, the tokens of each place and the time of each transition. What is asked of
-- them, and of a fraction of time per token.
use Rattle.std.specs.Prelude.{List, ◌*◌, ◌+◌, ◌<◌, ◌≤◌, ℕ}
use Rattle.marked.specs.Net.{Net, at}
use Rattle.net.specs.Limits.{longest_time, most_places, most_transitions}
use Rattle.net.specs.Plan.{wires}
use Rattle.net.specs.Graph.{RunsFrom, net_of}
use Rattle.net.specs.Good.{Wired}

-- A net, the tokens of each place, and what each transition takes.
pub record Loaded : Type 0 where
  pub net : Net
  pub held : ℕ → ℕ
  pub time : ℕ → ℕ

-- The same from arrays.
abbrev pub loaded : ℕ → ℕ → List ℕ → List ℕ → List ℕ → List ℕ → Loaded
loaded n e from to marking times = record { net = net_of (wires n e from to); held = at marking; time = at times }

-- The most tokens of a place: room for deeper buffers.
abbrev pub most_tokens : ℕ
most_tokens = 8

-- Rows of a wired graph, not too many tokens on a place, and no transition takes longer than an operation may: so three times an operation fit.
pub record Weighted (n e : ℕ) (from to marking times : List ℕ) : Type 0 where
  pub wired : Wired n e from to
  pub few : (p : ℕ) → p < 3 * n + 2 * e → at marking p ≤ most_tokens
  pub short : (t : ℕ) → t < 3 * n + 2 → at times t ≤ longest_time

-- The place p leads from s to t, and its numbers, the time and the tokens there are within the limits.
pub record Leads (g : Loaded) (p s t : ℕ) : Type 0 where
  pub runs : RunsFrom g.net p s t
  pub starts : s < most_transitions
  pub ends : t < most_transitions
  pub within : p < most_places
  pub time : g.time s ≤ longest_time
  pub tokens : g.held p ≤ most_tokens

-- The most time of a fraction, and the most tokens: room for a closed walk of as many places as there can be transitions.
abbrev pub most_time : ℕ
most_time = 1000000000

abbrev pub most_held : ℕ
most_held = 1000

-- a units of time for b tokens are within these limits.
pub record Pair (a b : ℕ) : Type 0 where
  pub up : a ≤ most_time
  pub down : b ≤ most_held

-- The most that the tokens of a place cost at such a fraction.
abbrev pub most_cost : ℕ
most_cost = 8000000000

-- No potential of a certificate is higher.
abbrev pub highest : ℕ
highest = 1000000000000000000
