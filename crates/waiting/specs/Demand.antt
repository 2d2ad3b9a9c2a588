-- The three sentences of the wait, end to end: what theorem `wait_answers_demand` says of the number that wait returns.
use Rattle.std.specs.Prelude.{◌≡◌, List, ℕ}
use Rattle.marked.specs.Net.{at}
use Rattle.marked.specs.Wait.{Demand3}
use Rattle.net.specs.Graph.{net_of}
use Rattle.reader.specs.Reply.{shown}
use Rattle.reader.specs.declared.graph.Graph.{Graph}

-- Of all firing sequences of look's graph g from the marking m, w meets the three sentences about the transition t, and no other number does.
pub record Demanded (g : Graph) (m : List ℕ) (t w : ℕ) : Type 0 where
  pub meets : Demand3 (net_of (shown g)) (at m) t w
  pub only : (v : ℕ) → Demand3 (net_of (shown g)) (at m) t v → v ≡ w
