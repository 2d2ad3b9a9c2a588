-- A circuit that always takes the lowest tight place is the first of those that attain the bound.
use mathlib.Core.Path.{◌≡◌, ◌∙◌, sym}
use mathlib.Core.Logic.{◌⊎◌, inl, inr}
use mathlib.Core.List.{List, ◌∷◌}
use Prim.Native.Nat.{◌<◌, ◌≤◌, ℕ}
use native.Mathlib.Omega.{arith}
use Rattle.marked.specs.Lists.{All}
use Rattle.marked.specs.Net.{Net, Walk}
use Rattle.marked.specs.Circuits.{Circuit}
use Rattle.marked.specs.Order.{Before, LowestFirst, later, lower}
use Rattle.marked.specs.Bounds.{Attains, Certifies, Tight}
use Rattle.marked.proofs.Walks.{rest, starts}
use Rattle.marked.proofs.Sizes.{walk_places}
use Rattle.marked.proofs.Order.{before_total}
use Rattle.marked.proofs.Certificate.{attains_tight}
use Rattle.circuit.specs.Chosen.{Chosen}

module _ (g : Net) (m time : ℕ → ℕ) (a b : ℕ) (D : ℕ → ℕ) where
  -- p is the lowest tight place,
  abbrev pub LowestTight : ℕ → Type 0
  LowestTight p = (q : ℕ) → q < g.places → Tight g m time a b D q → p ≤ q

  -- or the lowest that leaves its transition.
  abbrev pub LowestOut : ℕ → Type 0
  LowestOut p = (q : ℕ) → q < g.places → Tight g m time a b D q → g.src q ≡ g.src p → p ≤ q

  -- No walk of tight places stands before one that takes the lowest.
  not_before : {u v w : ℕ} {ps qs : List ℕ} → Before qs ps → Walk g u v ps → Walk g u w qs → All LowestOut ps → All (Tight g m time a b D) qs → ⊥
  not_before (lower {p = q} h) x y l t = omega (arith, l.0 q (walk_places y).0 t.0 (starts y ∙ sym (starts x)))
  not_before (later {p = p} k) x y l t = not_before {u = g.dst p} k (rest x) (rest y) l.1 t.1

  module _ (cert : Certifies g m time a b D) {c p : ℕ} {ps : List ℕ} (ring : Circuit g c (p ∷ ps)) (low : LowestTight p) (out : All LowestOut ps) where
    -- Nor does a circuit, where the first place is the lowest of all.
    none_before : {e : ℕ} {qs : List ℕ} → Circuit g e qs → Attains g m time a b qs → Before qs (p ∷ ps) → ⊥
    none_before d t (lower {p = q} h) = omega (arith, low q (walk_places d.walk).0 (attains_tight g m time a b D cert d.walk t).0)
    none_before d t (later k) = not_before k (rest ring.walk) (rest d.walk) out (attains_tight g m time a b D cert d.walk t).1

    pub greedy_chosen : Attains g m time a b (p ∷ ps) → LowestFirst (p ∷ ps) → Chosen g m time a b (p ∷ ps)
    greedy_chosen t l = record { turn = c; circuit = ring; attains = t; lowest = l; first = λ e qs d s k. at d s (before_total (p ∷ ps) qs ring d) }
      where
        at : {e : ℕ} {qs : List ℕ} → Circuit g e qs → Attains g m time a b qs → ((p ∷ ps) ≡ qs) ⊎ (Before (p ∷ ps) qs ⊎ Before qs (p ∷ ps)) → ((p ∷ ps) ≡ qs) ⊎ Before (p ∷ ps) qs
        at d s (inl z) = inl z
        at d s (inr (inl k)) = inr k
        at d s (inr (inr k)) = absurd (none_before d s k)
