-- Every node has a path from the source: go back along unmarked edges, which cannot come round, to a marked edge or to the source.
use mathlib.Core.Path.{◌≡◌, subst, subst⁻¹}
use mathlib.Core.List.{List, [], ◌∷◌}
use Prim.Native.Nat.{◌+◌, ◌<◌, ◌≤◌, suc, zero, ℕ}
use native.Mathlib.Decide.{ℕ_discrete}
use native.Mathlib.Omega.{arith}
use lib.ListN.{length}
use Rattle.marked.specs.Lists.{All}
use Rattle.marked.proofs.Pigeonhole.{pigeonhole}
use Rattle.net.specs.Plan.{Plan}
use Rattle.paths_finish.specs.Modified.{Link, Path, begins, go, stays, stop}
use Rattle.paths_finish.proofs.Links.{then}
use Rattle.paths_finish.proofs.Distinct.{path_distinct}
use Rattle.paths_finish.proofs.Passing.{Passing}

-- A path from the source to v.
pub record Reached (g : Plan) (v : ℕ) : Type 0 where
  pub nodes : List ℕ
  pub path : Path g 0 v nodes

module _ {g : Plan} (ok : Passing g) where
  -- One edge more, unmarked, at a path's end; or a marked one, which starts a path.
  along : (e : ℕ) → e < g.edges → g.mark e ≡ 0 → Reached g (g.from e) → Reached g (g.to e)
  along e h k r = record { nodes = _; path = then r.path (go (stays e h k) stop) }

  anew : (e : ℕ) → e < g.edges → 1 ≤ g.mark e → Reached g (g.to e)
  anew e h k = record { nodes = _; path = go (begins e h k) stop }

  -- k counts the nodes that the path onward from v has not come to.
  back : (k v : ℕ) {b : ℕ} (ns : List ℕ) → 1 ≤ v → v ≤ g.operations + 1 → Path g v b ns → All (◌< g.operations + 2) ns → g.operations + 2 < length ns + k → Reached g v
  back zero v ns l m p a h = absurd (omega (arith, pigeonhole (g.operations + 2) ns a (path_distinct ok p)))
  back (suc k) v ns l m p a h =
      let i = ok.entered v l m in
      let e : ℕ = i.edge in
      subst (Reached g) i.there (elim (ℕ_discrete (g.mark e) 0) [
        | no n ↦ anew e i.inside (omega arith)
        | yes z ↦ along e i.inside z (elim (ℕ_discrete (g.from e) 0) [
          | yes s ↦ subst⁻¹ (Reached g) s (record { nodes = []; path = stop })
          | no n ↦ let onward = go (subst (Link g (g.from e)) i.there (stays e i.inside z)) p in
              back k (g.from e) (v ∷ ns) (omega arith) (omega (arith, ok.leaves e i.inside)) onward (omega arith, a) (omega arith)
        ])
      ])

  -- Every node of the graph has a path from the source.
  pub reached : (v : ℕ) → v ≤ g.operations + 1 → Reached g v
  reached v m = elim (ℕ_discrete v 0) [
    | yes z ↦ subst⁻¹ (Reached g) z (record { nodes = []; path = stop })
    | no n ↦ back (g.operations + 3) v [] (omega arith) m stop tt (omega arith)
  ]
