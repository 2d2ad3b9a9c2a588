-- From the lists, the search's answer and what was written to the chosen circuit.
use mathlib.Core.Path.{◌≡◌, refl}
use mathlib.Core.List.{List, ◌∷◌}
use Prim.Native.Nat.{◌*◌, ◌+◌, ◌<◌, ◌≤◌, ℕ}
use native.Mathlib.Omega.{arith}
use lib.ListN.{length, replicate}
use Rattle.std.specs.Prelude.{IsSome, None, Option, Some}
use Rattle.marked.specs.Net.{at}
use Rattle.net.specs.Limits.{most_places, most_transitions}
use Rattle.net.specs.Plan.{wires}
use Rattle.net.specs.Graph.{net_of}
use Rattle.fraction.specs.helpers.Loaded.{Loaded, Weighted, loaded}
use Rattle.fraction.proofs.Loads.{weighted_proper}
use Rattle.tbo.specs.helpers.LargestBy.{LargestBy}
use Rattle.circuit_tight.specs.helpers.Lists.{Headed, Lengthened, Threaded, Listed, Listing, TightIn, drawn}
use Rattle.circuit_tight.proofs.ListRows.{listing_start}
use Rattle.circuit_search.specs.helpers.Ways.{Cut}
use Rattle.circuit_search.specs.helpers.Turns.{Lowest, LowestBack}
use Rattle.circuit.specs.helpers.Writing.{Written}
use Rattle.circuit.specs.Chosen.{Handed}
use Rattle.circuit.proofs.Agree.{cut_move, ends_apart, first_move, headed, into, onto, threaded}
use Rattle.circuit.proofs.Choice.{chosen_way, some_place}

module _ {g : Loaded} {a b : ℕ} {d head next src dst : List ℕ} (l : Listing g a b d 0 head next src dst) (x : LargestBy g a b d) where
  -- Where below r no listed place has a way back, no tight place has.
  below :
      {r : ℕ} → r ≤ g.net.places → ((p : ℕ) → p < r → Listed dst p → Cut (drawn g.net.transitions g.net.places src dst) (Listed dst) (at dst p) (at src p))
      → (p : ℕ) → p < r → TightIn g a b d p → Cut g.net (TightIn g a b d) (g.net.dst p) (g.net.src p)
  below most f p h t =
      let k : p < g.net.places = omega arith in
      let c = cut_move (onto l) (into l) (f p h ((into l).fits p k t)) in
      rw ((into l).enters p k t, (into l).leaves p k t) c

  -- But some place has.
  some_found : ((p : ℕ) → p < g.net.places → Listed dst p → Cut (drawn g.net.transitions g.net.places src dst) (Listed dst) (at dst p) (at src p)) → ⊥
  some_found f = omega (arith, some_place g.net g.held g.time a b (at d) x.certifies (below (omega arith) f) x.largest)

  ring_handed :
      {via : List ℕ} {r : ℕ} → LowestBack g.net.transitions g.net.places src dst via r
      → {before after : List ℕ} {len : ℕ} → Written g.net.transitions g.net.places src dst r before len after → Handed g.net g.held g.time a b before len after
  ring_handed {r = r} o w =
      let n = first_move (onto l) (into l) w.first in
      let t = (onto l).fits r o.inside o.listed in
      record {
        ring = r ∷ w.way;
        chosen = chosen_way g.net g.held g.time a b (at d) x.certifies (below (omega (arith, o.inside)) o.below) o.inside t w.way (rw ((onto l).enters r o.inside o.listed, (onto l).leaves r o.inside o.listed) at n);
        long = omega (arith, w.count);
        written = w.written;
      }

-- The lists as they were made: from nothing listed to every tight place.
module _
    {n e : ℕ} {from to marking times : List ℕ} (o : Weighted n e from to marking times) {a b nt np : ℕ} {d links starts head next src dst : List ℕ}
    (et : nt ≡ 3 * n + 2) (ep : np ≡ 3 * n + 2 * e)
    (w : Lengthened (loaded n e from to marking times) a b d (3 * n + 2 * e) 0 (replicate most_transitions np) links starts (replicate most_places most_transitions) head next src dst) where
  all_listed : Listing (loaded n e from to marking times) a b d 0 head next src dst
  all_listed = w.more (rw ep (listing_start o a b d links starts))

  -- What the search asks of them,
  pub all_threaded : Threaded nt np next src dst
  all_threaded =
      let wired = o.wired in
      rw (et, ep) (threaded all_listed (weighted_proper o) (omega (arith, wired.operations)) (omega (arith, wired.operations, wired.edges)) (ends_apart wired))

  pub all_headed : length head ≡ most_transitions → Headed nt np head src dst
  all_headed long = rw (et, ep) (headed all_listed long)

  -- and what its answer gives.
  module _ (x : LargestBy (loaded n e from to marking times) a b d) where
    pub found : (via : List ℕ) (r : Option ℕ) → Lowest nt np src dst via r → IsSome r
    found via (Some p) s = refl
    found via None s = absurd (some_found all_listed x (rw (et, ep) at s))

    pub handed :
        {via : List ℕ} {r : ℕ} → LowestBack nt np src dst via r → {before after : List ℕ} {len : ℕ} → Written nt np src dst r before len after
        → Handed (net_of (wires n e from to)) (at marking) (at times) a b before len after
    handed l u = ring_handed all_listed x (rw (et, ep) at l) (rw (et, ep) at u)
