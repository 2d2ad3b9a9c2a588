-- The largest entry of all sinks is TT: the data sink's, or that of a marked edge's origin, behind which its fresh sink lies.
use mathlib.Core.Path.{◌≡◌, ◌∙◌, ap, refl, subst, sym}
use mathlib.Core.Logic.{⊎_elim, inl, inr}
use mathlib.Core.List.{List, [], ◌++◌, ◌∷◌}
use Prim.Native.Nat.{◌+◌, ◌≤◌, max, ℕ}
use native.Mathlib.Decide.{dec_lt, ℕ_discrete}
use native.Mathlib.Omega.{arith}
use Rattle.marked.specs.Sums.{sum}
use Rattle.marked.specs.Net.{at}
use Rattle.marked.proofs.Pigeonhole.{sum_append}
use Rattle.net.specs.Plan.{Plan, rows, time_at}
use Rattle.paths_finish.specs.Modified.{Link, Path, begins, ends, go, node_time, path_time, stays, stop}
use Rattle.paths_finish.specs.Longest.{Sink, TT}
use Rattle.paths_finish.specs.helpers.Finishing.{Finished}
use Rattle.paths.specs.helpers.Latest.{Latest}
use Rattle.paths_finish.proofs.Links.{sink_ends, then, time_sink}
use Rattle.paths_finish.proofs.Passing.{Passing}

-- No edge yet: the data sink's.
pub latest_none : (n : ℕ) (from mark d : List ℕ) → Latest n from mark d 0 (at d (n + 1))
latest_none n from mark d = record { sink = omega arith; fresh = λ j h m. absurd (omega arith); is = inl refl }

module _ {n : ℕ} {from mark d : List ℕ} where
  -- One edge more, without a mark,
  pub latest_unmarked : {k r : ℕ} → Latest n from mark d k r → at mark k ≡ 0 → Latest n from mark d (k + 1) r
  latest_unmarked {k} l none =
      record {
        sink = l.sink;
        fresh = λ j h marked. l.fresh j (elim (ℕ_discrete j k) [ yes z ↦ absurd (omega (arith, rw z at marked)) | no z ↦ omega arith ]) marked;
        is = ⊎_elim (λ o. inl o) (λ o. inr (o.0, omega (arith, o.1), o.2, o.3)) l.is;
      }

  -- or with one, from node a.
  pub latest_marked : {a k r : ℕ} → Latest n from mark d k r → 1 ≤ at mark k → a ≡ at from k → Latest n from mark d (k + 1) (max r (at d a))
  latest_marked {a} {k} {r} l some ea =
      record {
        sink = omega (arith, l.sink);
        fresh = λ j h marked. elim (ℕ_discrete j k) [ yes z ↦ rw z (omega (arith, ap (at d) ea)) | no z ↦ omega (arith, l.fresh j (omega arith) marked) ];
        is = elim (dec_lt r (at d a)) [
          | yes h ↦ inr (k, omega arith, some, omega (arith, ap (at d) ea))
          | no h ↦
              let kept : max r (at d a) ≡ r = omega arith in
              ⊎_elim (λ o. inl (kept ∙ o)) (λ o. inr (o.0, omega (arith, o.1), o.2, kept ∙ o.3)) l.is
        ];
      }

module _
    {n e : ℕ} {times from to mark buffers d : List ℕ} (ok : Passing (rows n e times from to mark buffers)) (f : Finished n e times from to mark buffers d) {r : ℕ}
    (l : Latest n from mark d e r) where
  abbrev plan : Plan
  plan = rows n e times from to mark buffers

  -- A path to b, and one node more.
  onward : {a b : ℕ} {ms : List ℕ} → Path plan 0 a ms → Link plan a b → Path plan 0 b (ms ++ b ∷ [])
  onward p k = then p (go k stop)

  time_onward : (ms : List ℕ) (b : ℕ) → path_time plan (ms ++ b ∷ []) ≡ path_time plan ms + node_time n (time_at times) b
  unfolding sum
  time_onward ms b = omega (arith, sum_append (node_time n (time_at times)) ms (b ∷ []))

  -- No path to a sink takes more than r.
  to_sink : {a b : ℕ} {ns : List ℕ} (ms : List ℕ) → Path plan 0 a ms → a ≤ n + 1 → Path plan a b ns → n + 1 ≤ b → path_time plan ms + path_time plan ns ≤ r
  unfolding sum
  to_sink {a} ms p m stop h = omega (arith, (f.each (n + 1) (omega arith)).most a ms (omega arith) p, l.sink)
  to_sink ms p m (go (stays k i z) q) h = omega (arith, to_sink (ms ++ at to k ∷ []) (onward p (stays k i z)) (ok.ends k i) q h, time_onward ms (at to k))
  to_sink ms p m (go (begins k i z) q) h = omega (arith, to_sink (ms ++ at to k ∷ []) (onward p (begins k i z)) (ok.ends k i) q h, time_onward ms (at to k))
  to_sink ms p m (go (ends k i z) q) h =
      omega (
        arith,
        (f.each (at from k) m).most (at from k) ms refl p,
        l.fresh k i z,
        time_sink n (time_at times) (n + 2 + k) (omega arith),
        ap (path_time plan) (sink_ends ok q (omega arith)).0,
      )

  pub latest_tt : TT plan r
  unfolding sum
  latest_tt = ⊎_elim
      (λ is.
      let w = f.each (n + 1) (omega arith) in
      record { end = w.end; kind = omega (arith, w.kind); nodes = w.nodes; path = w.path; has = w.has ∙ sym is; most = λ b ns i q. most ns i q })
      (λ is.
      let k : ℕ = is.0 in
      let w = f.each (at from k) (omega (arith, ok.leaves k is.1)) in
      record {
        end = n + 2 + k;
        kind = omega arith;
        nodes = w.nodes ++ (n + 2 + k) ∷ [];
        path = onward (subst (λ (u : ℕ). Path plan 0 u w.nodes) w.kind w.path) (ends k is.1 is.2);
        has = omega (arith, time_onward w.nodes (n + 2 + k), time_sink n (time_at times) (n + 2 + k) (omega arith), w.has, is.3);
        most = λ b ns i q. most ns i q;
      })
      l.is
    where
      most : {b : ℕ} (ns : List ℕ) → Sink plan b → Path plan 0 b ns → path_time plan ns ≤ r
      most ns i q = omega (arith, to_sink [] stop (omega arith) q i)
