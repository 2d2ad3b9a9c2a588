-- Where no edge raises an entry any more, each entry is the largest sum on a path to its node.
use mathlib.Core.Path.{◌≡◌, ◌∙◌, ap, refl, subst, sym}
use mathlib.Core.List.{List, ◌++◌}
use Prim.Native.Nat.{◌+◌, ◌≤◌, ℕ}
use native.Mathlib.Decide.{dec_lt}
use native.Mathlib.Omega.{arith}
use Rattle.marked.specs.Sums.{sum}
use Rattle.marked.specs.Net.{at}
use Rattle.marked.proofs.Pigeonhole.{sum_append}
use Rattle.net.specs.Plan.{Plan, rows, time_at}
use Rattle.paths_finish.specs.Modified.{Path, begins, ends, go, node_time, path_time, stays, stop}
use Rattle.paths_finish.specs.helpers.Finishing.{AllDone, Finished}
use Rattle.paths_finish.proofs.Links.{sink_ends, source_begins, then}
use Rattle.paths_finish.proofs.Reached.{reached}
use Rattle.paths_finish.proofs.Offers.{offer_marked, offer_unmarked}
use Rattle.paths_finish.proofs.Passing.{Passing, good_passing}

module _ {n e : ℕ} {times from to mark buffers d : List ℕ} (s : AllDone n e times from to mark buffers d) where
  abbrev g : Plan
  g = rows n e times from to mark buffers

  abbrev ok : Passing g
  ok = good_passing s.backed.good

  -- The source is done at once.
  at_source : at d 0 ≡ 0
  unfolding sum
  at_source = let c = s.backed.chains 0 in sym c.has ∙ ap (path_time g) (source_begins ok c.path refl)

  -- No path takes more than its two ends lie apart.
  under : {a b : ℕ} {ns : List ℕ} → Path g a b ns → b ≤ n + 1 → at d a + path_time g ns ≤ at d b
  unfolding sum
  under stop h = omega arith
  under (go (stays k i z) p) h = omega (arith, under p h, s.settled k i, offer_unmarked s.backed i z)
  under (go (begins k i z) p) h = omega (arith, under p h, s.settled k i, offer_marked s.backed i (λ j. omega arith), at_source)
  under (go (ends k i z) p) h = absurd (omega (arith, (sink_ends ok p (omega arith)).1))

  pub settled_finished : Finished n e times from to mark buffers d
  settled_finished = record {
    long = s.backed.long;
    each = λ v h.
        let c = s.backed.chains v in
        let near : c.begin ≤ n + 1 = elim (dec_lt (n + 1) c.begin) [ yes i ↦ absurd (omega (arith, (sink_ends ok c.path (omega arith)).1)) | no i ↦ omega arith ] in
        let r = reached ok c.begin near in
        let path : Path g 0 v (r.nodes ++ c.nodes) = then r.path c.path in
        record {
          end = v;
          kind = refl;
          nodes = r.nodes ++ c.nodes;
          path = path;
          has = omega (arith, sum_append (node_time n (time_at times)) r.nodes c.nodes, c.has, under path h, at_source);
          most = λ b ns i q. omega (arith, under (subst (λ (u : ℕ). Path g 0 u ns) i q) h, at_source);
        };
  }
