-- A largest sum, by a value for each node that no link raises and a path that has it; both are tested.
use mathlib.Core.Path.{◌≡◌}
use mathlib.Core.Bool.{◌&&◌}
use mathlib.Core.List.{List, [], ◌∷◌}
use Prim.Native.Nat.{◌+◌, ◌<◌, ◌≤◌, suc, zero, ℕ}
use native.Mathlib.Decide.{dec_lt}
use native.Mathlib.Omega.{arith}
use lib.Dec.{eqb}
use lib.ListN.{length, get_or-eq_default}
use Rattle.marked.specs.Sums.{sum}
use Rattle.marked.proofs.Decide.{both?, each?, eq?, given?, le?, passes}
use Rattle.net.specs.Plan.{Plan}
use Rattle.paths_finish.specs.Modified.{Link, Path, begins, ends, go, node_time, path_time, stays, stop}
use Rattle.paths_finish.specs.Longest.{Longest}
use Rattle.cases.proofs.Searching.{Known, finishes, first, list, number}
use Rattle.cases.proofs.Trying.{Tried, and, fails, or, so, try}

module _ (g : Plan) where
  abbrev timed : ℕ → ℕ
  timed v = node_time g.operations g.time v

  pub link_to : {a b c d : ℕ} → Link g a b → (a ≡ c) × (b ≡ d) → Link g c d
  link_to l x = rw (x.0, x.1) at l

  -- A link from a to b that edge e gives, or a lower edge,
  abbrev link_at : (a b e : ℕ) → e < g.edges → Tried (Link g a b)
  link_at a b e l =
      or (so (λ x. link_to (stays e l x.0) x.1) (try (both? (eq? (g.mark e) 0) (both? (eq? (g.from e) a) (eq? (g.to e) b)))))
      (or (so (λ x. link_to (begins e l x.0) x.1) (try (both? (le? 1 (g.mark e)) (both? (eq? 0 a) (eq? (g.to e) b)))))
      (so (λ x. link_to (ends e l x.0) x.1) (try (both? (le? 1 (g.mark e)) (both? (eq? (g.from e) a) (eq? (g.operations + 2 + e) b))))))

  abbrev link_below : (a b n : ℕ) → n ≤ g.edges → Tried (Link g a b)
  link_below a b zero l = fails
  link_below a b (suc n) l = or (link_at a b n l) (link_below a b n (omega arith))

  -- and a path along nodes.
  abbrev path? : (a b : ℕ) (ns : List ℕ) → Tried (Path g a b ns)
  path? a b [] = so (λ e. rw e stop) (try (eq? a b))
  path? a b (n ∷ ns) = so (λ x. go x.0 x.1) (and (link_below a n g.edges (omega arith)) (path? n b ns))

  -- No link raises the values F.
  abbrev Steady : (ℕ → ℕ) → Type 0
  Steady F =
      (e : ℕ)
      → e < g.edges
      → (g.mark e ≡ 0 → F (g.from e) + timed (g.to e) ≤ F (g.to e))
      × (1 ≤ g.mark e → (F 0 + timed (g.to e) ≤ F (g.to e)) × (F (g.from e) + timed (g.operations + 2 + e) ≤ F (g.operations + 2 + e)))

  abbrev steady? : (F : ℕ → ℕ) → Dec (Steady F)
  steady? F =
      each?
      (λ e. both?
      (given? (eq? (g.mark e) 0) (le? (F (g.from e) + timed (g.to e)) (F (g.to e))))
      (given? (le? 1 (g.mark e)) (both? (le? (F 0 + timed (g.to e)) (F (g.to e))) (le? (F (g.from e) + timed (g.operations + 2 + e)) (F (g.operations + 2 + e))))))
      g.edges

  module _ (F : ℕ → ℕ) (steady : Steady F) where
    link_steady : {a b : ℕ} → Link g a b → F a + timed b ≤ F b
    link_steady (stays e l k) = (steady e l).0 k
    link_steady (begins e l k) = ((steady e l).1 k).0
    link_steady (ends e l k) = ((steady e l).1 k).1

    -- So a path takes no more than they differ.
    pub path_steady : {a b : ℕ} {ns : List ℕ} → Path g a b ns → F a + path_time g ns ≤ F b
    unfolding sum
    path_steady stop = omega arith
    path_steady (go l p) = omega (arith, link_steady l, path_steady p)

  -- No sink of the kind, of those that there are, has a value above r.
  abbrev Topped : (ℕ → Type 0) → Known → ℕ → Type 0
  Topped Kind k r = (v : ℕ) → v < length k → Kind v → number k v ≤ r

  pub topped_all : {Kind : ℕ → Type 0} (k : Known) {r : ℕ} → Topped Kind k r → (v : ℕ) → Kind v → number k v ≤ r
  topped_all {Kind} k {r} h v kind = at (dec_lt v (length k))
    where
      at : Dec (v < length k) → number k v ≤ r
      at (yes l) = h v l kind
      at (no l) = let q : length k ≤ v = omega arith in rw (number, get_or-eq_default k (0, []) q) (omega arith)

  -- The largest sum to a node of a kind: k tells the values, and for the node `end` the path.
  abbrev pub longest? : (Kind : ℕ → Type 0) → ((v : ℕ) → Dec (Kind v)) → (k : Known) (r end : ℕ) → Tried (Longest g Kind r)
  longest? Kind kind? k r end =
      so
      (λ x. record {
        end = end;
        kind = x.0;
        nodes = list k end;
        path = x.1.0;
        has = x.1.1.0;
        most = λ b ns h p. omega (arith, path_steady (number k) x.1.1.1.0 p, topped_all k x.1.1.1.1 b h);
      })
      (and (try (kind? end))
      (and (path? 0 end (list k end))
      (and (try (eq? (path_time g (list k end)) r))
      (and (try (steady? (number k))) (try (each? (λ v. given? (kind? v) (le? (number k v) r)) (length k)))))))

  -- With the node that the search finds.
  abbrev pub sum? : (Kind : ℕ → Type 0) → ((v : ℕ) → Dec (Kind v)) → (r : ℕ) → Tried (Longest g Kind r)
  sum? Kind kind? r = let k = finishes g in longest? Kind kind? k r (first (λ v. passes (kind? v) && eqb (number k v) r) (length k) 0)
