-- What the lines ask of the values that they are handed. A graph within its limits meets it with room to spare.
use Rattle.std.specs.Prelude.{List, ℕ, ◌+◌, ◌*◌, ◌^◌, ◌<◌, ◌≤◌, length}
use Rattle.marked.specs.Net.{at}

-- The counts of a graph.
pub record CountsFit (n e : ℕ) : Type 0 where
  pub operations : n ≤ 40
  pub edges : e ≤ 128

-- The numbers of a report whose text has at most 4,096 bytes.
pub record Printable (n e a b x y z : ℕ) (ring : List ℕ) (waits : ℕ → ℕ) : Type 0 where
  pub counts : CountsFit n e
  pub numerator : a < 10 ^ 10
  pub denominator : b < 10 ^ 10
  pub tbio : x < 10 ^ 10
  pub total : y < 10 ^ 10
  pub tce : z < 10 ^ 10
  pub circuit : length ring ≤ 122
  pub places : (i : ℕ) → i < length ring → at ring i < 10 ^ 5
  pub waited : (t : ℕ) → t < 3 * n + 2 → waits t < 10 ^ 10

-- What remains to be asked where 16 and 32 bits limit the other numbers: counts, TBO, no more places than transitions, a wait for each
-- transition, and the buffer's 4,096 bytes.
pub record Writable (buf : List ℕ) (n e a b : ℕ) (ring waits : List ℕ) : Type 0 where
  pub room : 4096 ≤ length buf
  pub counts : CountsFit n e
  pub numerator : a < 10 ^ 10
  pub denominator : b < 10 ^ 10
  pub circuit : length ring ≤ 122
  pub each : 3 * n + 2 ≤ length waits
