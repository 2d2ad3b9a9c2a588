-- What counting and writing the places of the circuit answer.
use Rattle.std.specs.Prelude.{◌≡◌, List, ◌++◌, ◌∷◌, ◌+◌, ℕ, drop, length}
use Rattle.marked.specs.Net.{at}
use Rattle.circuit_tight.specs.helpers.Lists.{Listed, drawn}
use Rattle.circuit_search.specs.helpers.Ways.{First, FirstNoted}

-- The way that via notes has one place less than k.
pub record WayCounted (nt np : ℕ) (src dst : List ℕ) (root goal : ℕ) (via : List ℕ) (k : ℕ) : Type 0 where
  pub noted : FirstNoted (drawn nt np src dst) (Listed dst) root goal (at via)
  pub count : k ≡ 1 + length noted.way

-- The buffer was `before`; now p and the first way back to where it leaves stand in its first len entries, and the others are as they were.
pub record Written (nt np : ℕ) (src dst : List ℕ) (p : ℕ) (before : List ℕ) (len : ℕ) (after : List ℕ) : Type 0 where
  pub way : List ℕ
  pub first : First (drawn nt np src dst) (Listed dst) (at dst p) (at src p) way
  pub count : len ≡ 1 + length way
  pub written : after ≡ (p ∷ way) ++ drop len before
