-- How large a walk and a circuit can be: its places, its time, its tokens.
use mathlib.Core.Path.{◌≡◌, ap, refl}
use mathlib.Core.List.{List, [], ◌∷◌}
use Prim.Native.Nat.{◌*◌, ◌<◌, ◌≤◌, ℕ}
use native.Mathlib.Omega.{arith}
use lib.ListN.{length}
use Rattle.marked.specs.Lists.{All, Avoids, Distinct}
use Rattle.marked.specs.Sums.{sum, upto}
use Rattle.marked.specs.Net.{Net, Proper, Walk, go, lasts, stop, tokens}
use Rattle.marked.specs.Circuits.{Circuit, froms}
use Rattle.marked.proofs.Pigeonhole.{pigeonhole, sum_distinct}
use Rattle.marked.proofs.Walks.{froms_in, length_froms}

-- the time of the places is the time of the transitions they leave from
lasts_froms : (g : Net) (time : ℕ → ℕ) (ps : List ℕ) → lasts g time ps ≡ sum time (froms g ps)
unfolding sum
lasts_froms g time [] = refl
lasts_froms g time (p ∷ ps) = omega (arith, lasts_froms g time ps)

-- a place whose source is new is new
avoids_places : (g : Net) (p : ℕ) (ps : List ℕ) → Avoids (g.src p) (froms g ps) → Avoids p ps
avoids_places g p [] a = tt
avoids_places g p (q ∷ ps) a = ((λ e. a.0 (ap g.src e)), avoids_places g p ps a.1)

distinct_places : (g : Net) (ps : List ℕ) → Distinct (froms g ps) → Distinct ps
distinct_places g [] d = tt
distinct_places g (p ∷ ps) d = (avoids_places g p ps d.0, distinct_places g ps d.1)

-- A walk goes along places of the net.
pub walk_places : {g : Net} {a b : ℕ} {ps : List ℕ} → Walk g a b ps → All (◌< g.places) ps
walk_places stop = tt
walk_places (go p h w) = (h, walk_places w)

-- The sum along places of at most k each.
pub walk_most : {g : Net} {a b : ℕ} {ps : List ℕ} (f : ℕ → ℕ) (k : ℕ) → ((p : ℕ) → p < g.places → f p ≤ k) → Walk g a b ps → sum f ps ≤ length ps * k
unfolding sum
walk_most f k h stop = omega arith
walk_most f k h (go p l w) = omega (arith, h p l, walk_most f k h w)

module _ (g : Net) (ok : Proper g) {a : ℕ} {ps : List ℕ} (c : Circuit g a ps) where
  -- A circuit has no more places than the net has transitions,
  pub circuit_length : length ps ≤ g.transitions
  circuit_length = omega (arith, pigeonhole g.transitions (froms g ps) (froms_in ok c.walk) c.simple, length_froms g ps)

  -- lasts no longer than all transitions together,
  pub circuit_lasts : (time : ℕ → ℕ) → lasts g time ps ≤ upto time g.transitions
  circuit_lasts time = omega (arith, sum_distinct time g.transitions (froms g ps) (froms_in ok c.walk) c.simple, lasts_froms g time ps)

  -- and holds no more tokens than all places together.
  pub circuit_tokens : (m : ℕ → ℕ) → tokens m ps ≤ upto m g.places
  circuit_tokens m = sum_distinct m g.places ps (walk_places c.walk) (distinct_places g ps c.simple)
