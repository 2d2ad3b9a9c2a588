-- The times of the transitions, as a buffer holds them.
use Rattle.std.specs.Prelude.{◌≡◌, List, ◌*◌, ◌+◌, ◌<◌, ℕ}
use Rattle.marked.specs.Net.{at}
use Rattle.net.specs.Plan.{time_at}
use Rattle.net.specs.Ends.{time_of}

-- Entry t of out is what transition t takes, for every transition of n operations with these times.
pub record Timed (n : ℕ) (times out : List ℕ) : Type 0 where
  pub each : (t : ℕ) → t < 3 * n + 2 → at out t ≡ time_of (time_at times) t
