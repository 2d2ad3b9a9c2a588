-- What an edge offers its target is what some path to it takes; so an entry raised to the doneBy is too.
use mathlib.Core.Path.{◌≡◌, ◌∙◌, ap, refl, sym}
use mathlib.Core.List.{List, [], ◌++◌, ◌∷◌}
use Prim.Native.Nat.{◌+◌, ◌<◌, ℕ}
use native.Mathlib.Decide.{ℕ_discrete}
use native.Mathlib.Omega.{arith}
use lib.ListN.{get_or, length, length-set, replicate, set}
use lib.Seq.{get_or-set_other, get_or-set_same}
use borrow.Author.Tests.{eq-eqb, ne_eqb}
use Rattle.marked.specs.Sums.{sum}
use Rattle.marked.specs.Net.{at}
use Rattle.marked.proofs.Fresh.{zeros}
use Rattle.marked.proofs.Pigeonhole.{sum_append}
use Rattle.net.specs.Good.{Good}
use Rattle.net.specs.Plan.{rows, time_at}
use Rattle.paths_finish.specs.Modified.{begins, go, node_time, stays, stop}
use Rattle.paths_finish.specs.helpers.Finishing.{Backed, PathTo, done_by}
use Rattle.paths_finish.proofs.Links.{then}

-- A path from a node to itself takes nothing: so the entries may begin at 0.
pub begun : {n e : ℕ} {times from to mark buffers : List ℕ} → Good n e times from to mark buffers → Backed n e times from to mark buffers (replicate 42 0)
unfolding sum
begun ok = record { good = ok; long = refl; chains = λ v. record { begin = v; nodes = []; path = stop; has = sym (zeros 42 v) } }

module _ {n e : ℕ} {times from to mark buffers d : List ℕ} (l : Backed n e times from to mark buffers d) {k : ℕ} (h : k < e) where
  pub offer_unmarked : at mark k ≡ 0 → done_by n times from to mark d k ≡ at d (at from k) + node_time n (time_at times) (at to k)
  unfolding done_by
  offer_unmarked z = simp (eq-eqb _ _ z)

  pub offer_marked : (at mark k ≡ 0 → ⊥) → done_by n times from to mark d k ≡ node_time n (time_at times) (at to k)
  unfolding done_by
  offer_marked z = simp (ne_eqb _ _ z) (omega arith)

  -- The path to its origin and the edge, or an edge from the source.
  pub offered : PathTo (rows n e times from to mark buffers) (at to k) (done_by n times from to mark d k)
  unfolding sum
  offered = elim (ℕ_discrete (at mark k) 0) [
    | yes z ↦ let c = l.chains (at from k) in record {
      begin = c.begin;
      nodes = c.nodes ++ at to k ∷ [];
      path = then c.path (go (stays k h z) stop);
      has = omega (arith, sum_append (node_time n (time_at times)) c.nodes (at to k ∷ []), c.has, offer_unmarked z);
    }
    | no z ↦ record { begin = 0; nodes = at to k ∷ []; path = go (begins k h (omega arith)) stop; has = omega (arith, offer_marked z) }
  ]

  -- Both ends have an entry.
  pub origin_in : at from k < 42
  origin_in = omega (arith, l.good.wired.leaves k h, l.good.wired.operations)

  pub target_in : at to k < 42
  target_in = omega (arith, l.good.wired.ends k h, l.good.wired.operations)

  pub inside : at to k < length d
  inside = omega (arith, l.long, target_in)

  pub lifted_backed : Backed n e times from to mark buffers (set d (at to k) (done_by n times from to mark d k))
  lifted_backed =
      let b : ℕ = at to k in
      let x : ℕ = done_by n times from to mark d k in
      record {
        good = l.good;
        long = length-set d b x ∙ l.long;
        chains = λ v. elim (ℕ_discrete v b) [
          | yes i ↦
              let new : get_or (set d b x) v 0 ≡ x = ap (λ (u : ℕ). get_or (set d b x) u 0) i ∙ get_or-set_same d b x 0 inside in
              rw (new, i) offered
          | no i ↦ rw (get_or-set_other d b v x 0 i) (l.chains v)
        ];
      }

  -- The doneBy of an edge whose ends a and b and own time t the code has read.
  module _ {b t : ℕ} (eb : b ≡ at to k) (et : t ≡ node_time n (time_at times) b) where
    pub read_unmarked : at mark k ≡ 0 → {a : ℕ} → a ≡ at from k → at d a + t ≡ done_by n times from to mark d k
    read_unmarked z ea = omega (arith, offer_unmarked z, ap (at d) ea, ap (node_time n (time_at times)) eb)

    pub read_marked : (at mark k ≡ 0 → ⊥) → t ≡ done_by n times from to mark d k
    read_marked z = omega (arith, offer_marked z, ap (node_time n (time_at times)) eb)
