-- What the helper for the waits answers.
use Rattle.std.specs.Prelude.{◌≡◌, List, ◌*◌, ◌+◌, ◌<◌, ℕ, length}
use Rattle.marked.specs.Net.{at}
use Rattle.marked.specs.Wait.{WaitSum}
use Rattle.net.specs.Plan.{wires}
use Rattle.net.specs.Graph.{net_of}

-- The wait of each transition from the marking now stands in its entry.
pub record Waited (n e : ℕ) (from to marking before after : List ℕ) : Type 0 where
  pub each : (t : ℕ) → t < 3 * n + 2 → WaitSum (net_of (wires n e from to)) (at marking) t (at after t)
  pub long : length after ≡ length before
