-- Marks of nodes: there is room for every end of an edge among them, and what one more mark does.
use Prim.Native.Nat.{ℕ, zero, suc}
use mathlib.Core.Path.{◌≡◌, refl, sym, ◌∙◌, subst}
use mathlib.Core.List.{List, [], ◌∷◌}
use native.Mathlib.Omega.{arith}
use native.Mathlib.Decide.{ℕ_discrete}
use lib.ListN.{set}
use lib.Seq.{get_or-set_other}
use Rattle.marked.specs.Net.{at}
use Rattle.net.specs.Good.{Wired}
use Rattle.judge_tour.specs.helpers.Ended.{Ended}

-- Rows within the limits have room for their ends among the marks.
pub wired_ended : {n e : ℕ} {from to : List ℕ} → Wired n e from to → Ended e from to
wired_ended ok = record { edges = ok.edges; leaves = λ k l. omega (arith, ok.operations, ok.leaves k l); enters = λ k l. omega (arith, ok.operations, ok.ends k l) }

pub set_marked : (xs : List ℕ) (i n : ℕ) → at xs n ≡ 1 → at (set xs i 1) n ≡ 1
set_marked [] i n e = e
set_marked (x ∷ xs) zero zero e = refl
set_marked (x ∷ xs) zero (suc n) e = e
set_marked (x ∷ xs) (suc i) zero e = e
set_marked (x ∷ xs) (suc i) (suc n) e = set_marked xs i n e

-- What is true of the marked nodes and of one more is true once that one is marked.
pub set_sound : (P : ℕ → Type 0) (seen : List ℕ) (i : ℕ) → P i → ((n : ℕ) → at seen n ≡ 1 → P n) → (n : ℕ) → at (set seen i 1) n ≡ 1 → P n
set_sound P seen i j h n e = go (ℕ_discrete n i)
  where
    go : Dec (n ≡ i) → P n
    go (yes p) = subst P (sym p) j
    go (no p) = h n (sym (get_or-set_other seen i n 1 0 p) ∙ e)
