-- Tests of nets that are written out.
use mathlib.Core.Path.{◌≡◌}
use mathlib.Core.List.{List, [], ◌∷◌}
use Prim.Native.Nat.{◌*◌, ◌+◌, ◌<◌, ℕ}
use lib.ListN.{length}
use Rattle.marked.specs.Net.{Net, Proper, Walk, go, stop, tokens}
use Rattle.marked.specs.Circuits.{Circuit, froms}
use Rattle.marked.specs.Bounds.{Certifies}
use Rattle.marked.specs.Distance.{Settled}
use Rattle.marked.proofs.Walks.{rest, starts, stays}
use Rattle.marked.proofs.Sizes.{walk_places}
use Rattle.marked.proofs.Alive.{Ranks}
use Rattle.marked.proofs.Decide.{both?, distinct?, each?, eq?, given?, le?, lt?, same?}

module _ (g : Net) where
  -- Whether every place runs between transitions of the net.
  abbrev pub proper? : Dec (Proper g)
  proper? =
      same? (λ x. record { src_in = λ p h. (x p h).0; dst_in = λ p h. (x p h).1 }) (λ x p h. (x.src_in p h, x.dst_in p h))
      (each? (λ p. both? (lt? (g.src p) g.transitions) (lt? (g.dst p) g.transitions)) g.places)

  -- Whether D certifies a / b.
  abbrev pub certifies? : (m time : ℕ → ℕ) (a b : ℕ) (D : ℕ → ℕ) → Dec (Certifies g m time a b D)
  certifies? m time a b D = each? (λ p. le? (D (g.src p) + b * time (g.src p)) (D (g.dst p) + a * m p)) g.places

  -- Whether no place leads to a lower value of d.
  abbrev pub settled? : (m d : ℕ → ℕ) → Dec (Settled g m d)
  settled? m d = each? (λ p. le? (d (g.dst p)) (d (g.src p) + m p)) g.places

  -- Whether each empty place raises the rank r.
  abbrev pub ranks? : (m r : ℕ → ℕ) → Dec (Ranks g m r)
  ranks? m r = each? (λ p. given? (eq? (m p) 0) (lt? (r (g.src p)) (r (g.dst p)))) g.places

  -- Whether places are a walk,
  abbrev pub walk? : (a b : ℕ) (ps : List ℕ) → Dec (Walk g a b ps)
  walk? a b [] = same? (λ e. rw e stop) stays (eq? a b)
  walk? a b (p ∷ ps) =
      same? (λ x. rw x.0 at (go p x.1.0 x.1.1)) (λ w. (starts w, ((walk_places w).0, rest w))) (both? (eq? (g.src p) a) (both? (lt? p g.places) (walk? (g.dst p) b ps)))

  -- and whether they are a circuit.
  abbrev pub circuit? : (a : ℕ) (ps : List ℕ) → Dec (Circuit g a ps)
  circuit? a ps =
      same? (λ x. record { walk = x.0; some = x.1.0; simple = x.1.1 }) (λ c. (c.walk, (c.some, c.simple))) (both? (walk? a a ps) (both? (le? 1 (length ps)) (distinct? (froms g ps))))

  -- Whether each transition u has the walk `ways u` from a, with d u tokens.
  abbrev pub ways? : (m d : ℕ → ℕ) (a : ℕ) (ways : ℕ → List ℕ) → Dec ((u : ℕ) → u < g.transitions → Walk g a u (ways u) × (tokens m (ways u) ≡ d u))
  ways? m d a ways = each? (λ u. both? (walk? a u (ways u)) (eq? (tokens m (ways u)) (d u))) g.transitions
