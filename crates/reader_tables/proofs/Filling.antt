-- An array that is filled from the front, one entry a turn.
use Prim.Native.Nat.{ℕ, ◌+◌, ◌<◌}
use mathlib.Core.Path.{◌≡◌, ◌∙◌}
use mathlib.Core.Logic.{◌≢◌}
use mathlib.Core.List.{List}
use native.Mathlib.Omega.{arith}
use native.Mathlib.Decide.{ℕ_discrete}
use lib.ListN.{get_or, set, replicate, length-set, length-replicate}
use lib.Seq.{get_or-set_same, get_or-set_other}
use Rattle.marked.proofs.Fresh.{zeros}
use Rattle.reader_tables.specs.Filled.{Filled}

pub filled_none : (room : ℕ) (h : ℕ → ℕ) → Filled 0 room h (replicate room 0)
filled_none room h = record { long = length-replicate room 0; used = λ i l. omega arith; unused = λ i l. zeros room i }

module _ (n room : ℕ) (h : ℕ → ℕ) (xs : List ℕ) (v : ℕ) (t : Filled n room h xs) (l : n < room) (e : v ≡ h n) where
  other : (i : ℕ) → i ≢ n → get_or (set xs n v) i 0 ≡ get_or xs i 0
  other i p = get_or-set_other xs n i v 0 p

  used : (i : ℕ) → i < n + 1 → get_or (set xs n v) i 0 ≡ h i
  used i k = go (ℕ_discrete i n)
    where
      go : Dec (i ≡ n) → get_or (set xs n v) i 0 ≡ h i
      go (yes p) = rw p (get_or-set_same xs n v 0 (rw t.long l) ∙ e)
      go (no p) = other i p ∙ t.used i (omega arith)

  -- One entry more.
  pub filled_more : Filled (n + 1) room h (set xs n v)
  filled_more =
      record { long = length-set xs n v ∙ t.long; used = used; unused = λ i k. other i (λ p. omega arith) ∙ t.unused i (omega arith) }
