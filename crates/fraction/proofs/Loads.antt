-- What the computational graph that the code is lent grants of each place.
use mathlib.Core.Path.{◌≡◌}
use mathlib.Core.List.{List}
use Prim.Native.Nat.{◌*◌, ◌+◌, ◌<◌, ◌≤◌, ℕ}
use native.Mathlib.Nat.{mul-le-mul}
use native.Mathlib.Omega.{arith}
use Rattle.marked.specs.Net.{Proper, at}
use Rattle.net.specs.Limits.{longest_time, most_places, most_transitions}
use Rattle.net.specs.Plan.{wires}
use Rattle.net.specs.Ends.{read_of, src_of, write_of}
use Rattle.net.specs.Graph.{RunsFrom, net_of}
use Rattle.net.proofs.Shapes.{wired_proper}
use Rattle.net.proofs.Table.{edge_places, row_places}
use Rattle.fraction.specs.helpers.Loaded.{Leads, Pair, Weighted, loaded, most_time, most_tokens}

module _ {n e : ℕ} {from to marking times : List ℕ} (o : Weighted n e from to marking times) where
  -- Both ends of a place are transitions,
  pub weighted_proper : Proper (net_of (wires n e from to))
  weighted_proper = wired_proper o.wired

  -- and the one that it leaves from takes no longer than an operation may.
  pub weighted_short : (p : ℕ) → p < 3 * n + 2 * e → at times (src_of n (at from) (at to) p) ≤ longest_time
  weighted_short p h = o.short (src_of n (at from) (at to) p) (weighted_proper.src_in p h)

  -- Of a place p from s to t: its numbers are within the limits, and so are the time and the tokens there.
  module _ {p s t : ℕ} (r : RunsFrom (net_of (wires n e from to)) p s t) where
    pub place_within : (s < most_transitions) × (t < most_transitions) × (p < most_places)
    place_within =
        let few = o.wired.operations in
        (omega (arith, weighted_proper.src_in p r.place, r.leaves), omega (arith, weighted_proper.dst_in p r.place, r.comes), omega (arith, r.place, o.wired.edges))

    pub place_time : at times s ≤ longest_time
    place_time = rw r.leaves at (weighted_short p r.place)

    pub place_tokens : at marking p ≤ most_tokens
    place_tokens = o.few p r.place

    pub place_leads : Leads (loaded n e from to marking times) p s t
    place_leads = record { runs = r; starts = place_within.0; ends = place_within.1; within = place_within.2; time = place_time; tokens = place_tokens }

    pub place_gain : {a b : ℕ} → Pair a b → b * at times s ≤ most_time
    place_gain few = mul-le-mul few.down place_time

  -- The three places of the operation in row i, and the two of edge k, which runs from u to v.
  pub row_runs :
      {i : ℕ} → i < n
      → RunsFrom (net_of (wires n e from to)) (3 * i) (3 * i + 1) (3 * i + 2)
      × RunsFrom (net_of (wires n e from to)) (3 * i + 1) (3 * i + 2) (3 * i + 3)
      × RunsFrom (net_of (wires n e from to)) (3 * i + 2) (3 * i + 3) (3 * i + 1)
  row_runs h = row_places (wires n e from to) h

  pub edge_runs :
      {k u v : ℕ} → k < e → u ≡ write_of (at from k) → v ≡ read_of (at to k)
      → RunsFrom (net_of (wires n e from to)) (3 * n + 2 * k) u v × RunsFrom (net_of (wires n e from to)) (3 * n + 2 * k + 1) v u
  edge_runs {k} h eu ev = rw (eu, ev) (edge_places (wires n e from to) k h)
