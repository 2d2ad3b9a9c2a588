-- Tests of distances and waits: by numbers that no place lowers, and walks that have them.
use mathlib.Core.List.{List}
use Prim.Native.Nat.{◌<◌, ℕ}
use Rattle.marked.specs.Net.{Net, at}
use Rattle.marked.specs.Distance.{Distances}
use Rattle.marked.specs.Wait.{WaitSum, others}
use Rattle.marked.proofs.Decide.{eq?}
use Rattle.marked.proofs.Check.{settled?, ways?}
use Rattle.marked.proofs.Least.{settled_distances}
use Rattle.net.specs.Plan.{Plan}
use Rattle.net.specs.Graph.{net_of, start_of}
use Rattle.cases.proofs.Trying.{Tried, and, below, so, try}
use Rattle.cases.proofs.Searching.{Known, list, number, walks}

module _ (g : Net) (m : ℕ → ℕ) where
  -- The fewest tokens from a.
  abbrev pub distances? : (a : ℕ) → (k : Known) → Tried (Distances g m a (number k))
  distances? a k =
      so (λ x. settled_distances (list k) x.0 x.1.0 x.1.1)
      (and (try (settled? g m (number k))) (and (try (eq? (number k a) 0)) (try (ways? g m (number k) a (list k)))))

  abbrev wait? : (t w : ℕ) → (k : Known) → Tried (WaitSum g m t w)
  wait? t w k = so (λ x. record { fewest = number k; each = x.0; adds = x.1 }) (and (distances? t k) (try (eq? w (others g.transitions t (number k)))))

-- Each transition's wait from the start.
abbrev pub the_waits? : (g : Plan) (ws : List ℕ) → Tried ((t : ℕ) → t < (net_of g).transitions → WaitSum (net_of g) (start_of g) t (at ws t))
the_waits? g ws = below (λ t. wait? (net_of g) (start_of g) t (at ws t) (walks (net_of g) (start_of g) t)) (net_of g).transitions
