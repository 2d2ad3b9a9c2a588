-- The circuit that is handed out: of the circuits that attain the largest time per token, written lowest place first, the first in dictionary order.
use Rattle.std.specs.Prelude.{◌≡◌, ◌⊎◌, List, ◌++◌, ℕ, drop, length}
use Rattle.marked.specs.Net.{Net}
use Rattle.marked.specs.Circuits.{Circuit}
use Rattle.marked.specs.Order.{Before, LowestFirst}
use Rattle.marked.specs.Bounds.{Attains}

-- ps is a circuit that attains a / b, written lowest place first, and stands before every other.
pub record Chosen (g : Net) (m time : ℕ → ℕ) (a b : ℕ) (ps : List ℕ) : Type 0 where
  pub turn : ℕ
  pub circuit : Circuit g turn ps
  pub attains : Attains g m time a b ps
  pub lowest : LowestFirst ps
  pub first : (c : ℕ) (qs : List ℕ) → Circuit g c qs → Attains g m time a b qs → LowestFirst qs → (ps ≡ qs) ⊎ Before ps qs

-- The buffer was `before`; now the chosen circuit stands in its first len entries, and the others are as they were.
pub record Handed (g : Net) (m time : ℕ → ℕ) (a b : ℕ) (before : List ℕ) (len : ℕ) (after : List ℕ) : Type 0 where
  pub ring : List ℕ
  pub chosen : Chosen g m time a b ring
  pub long : length ring ≡ len
  pub written : after ≡ ring ++ drop len before
