-- A tight place put in front of the others; and the lists at the start.
use mathlib.Core.List.{List}
use Prim.Native.Nat.{◌*◌, ◌+◌, ◌≤◌, ℕ}
use native.Mathlib.Omega.{arith}
use lib.ListN.{get_or-replicate, replicate, set}
use Rattle.marked.specs.Net.{at}
use Rattle.marked.proofs.Fresh.{fresh_low}
use Rattle.net.specs.Graph.{RunsFrom, net_of}
use Rattle.net.specs.Plan.{wires}
use Rattle.net.specs.Limits.{most_places, most_transitions}
use Rattle.fraction.specs.helpers.Loaded.{Weighted, loaded}
use Rattle.fraction.proofs.Loads.{weighted_proper}
use Rattle.circuit_tight.specs.helpers.Lists.{Lengthened, Listing, TightIn, Whole}
use Rattle.circuit_tight.proofs.Listings.{longer_put}

module _ {n e : ℕ} {from to marking times : List ℕ} (ok : Weighted n e from to marking times) where
  few : 3 * n + 2 ≤ most_transitions
  few = omega (arith, ok.wired.operations)

  many : 3 * n + 2 * e ≤ most_places
  many = omega (arith, ok.wired.operations, ok.wired.edges)

  -- The place p, which runs from s to t, is put in front of the places that leave s.
  module _ {a b p s t : ℕ} {d head next src dst : List ℕ} (r : RunsFrom (net_of (wires n e from to)) p s t) (o : Whole head next src dst) where
    pub place_put :
        TightIn (loaded n e from to marking times) a b d p
        → Lengthened (loaded n e from to marking times) a b d (p + 1) p head next src dst (set head s p) (set next p (at head s)) (set src p s) (set dst p t)
    place_put = longer_put (weighted_proper ok) few many r o

  -- At the start nothing is listed, and the lists are rightly empty.
  pub listing_start :
      (a b : ℕ) (d next src : List ℕ)
      → Listing (loaded n e from to marking times) a b d (3 * n + 2 * e) (replicate most_transitions (3 * n + 2 * e)) next src (replicate most_places most_transitions)
  listing_start a b d next src = record {
    heads = λ v h.
        let z = get_or-replicate most_transitions v (3 * n + 2 * e) 0 (omega (arith, few)) in
        record { most = omega arith; fits = λ k. absurd (omega arith); none = λ p i j. absurd (omega arith) };
    nexts = λ q i h. absurd (omega arith);
    tight = λ q i h. absurd (omega arith);
    listed = λ q i h. absurd (omega arith);
    blank = λ q i h. get_or-replicate most_places q most_transitions 0 (omega (arith, many));
    low = λ v. fresh_low most_transitions (3 * n + 2 * e) v;
  }
