-- No path comes to a node twice: a repeat would be a circuit of unmarked edges, and its full, data read and data processed places a closed walk without a token. So a path's operations take
-- no more than all of them.
use mathlib.Core.Path.{◌≡◌, ◌∙◌, ap, refl, subst, sym}
use mathlib.Core.Logic.{◌≢◌}
use mathlib.Core.List.{List, [], ◌∷◌}
use Prim.Native.Nat.{◌*◌, ◌+◌, ◌-◌, ◌<◌, ◌≤◌, suc, zero, ℕ}
use native.Mathlib.Decide.{ℕ_discrete}
use native.Mathlib.Numerals.{add-one}
use native.Mathlib.Omega.{arith}
use lib.ListN.{length}
use Rattle.marked.specs.Lists.{All, Avoids, Distinct}
use Rattle.marked.specs.Sums.{sum, upto}
use Rattle.marked.specs.Net.{Net, Walk, tokens}
use Rattle.marked.specs.Net.Walk.{go, stop}
use Rattle.marked.proofs.Entries.{all_map}
use Rattle.marked.proofs.Pigeonhole.{sum_distinct}
use Rattle.net.specs.Plan.{Plan}
use Rattle.net.specs.Ends.{read_of}
use Rattle.net.specs.Graph.{net_of, start_of}
use Rattle.net.proofs.Shapes.{dst_op, full_dst, full_src, full_start, src_op, start_ring}
use Rattle.paths_finish.specs.Modified.{Path, node_time, path_time}
use Rattle.paths_finish.specs.Modified as modified
use Rattle.paths_finish.specs.Longest.{effort}
use Rattle.paths_finish.proofs.Links.{link_enters, link_leaves, path_within, sink_ends, time_operation, time_sink, time_source}
use Rattle.paths_finish.proofs.Passing.{Passing}

-- One place more in front of a walk, its ends given by other words.
step : {g : Net} {a b c : ℕ} {ps : List ℕ} (p : ℕ) → p < g.places → g.src p ≡ a → g.dst p ≡ b → Walk g b c ps → Walk g a c (p ∷ ps)
step {g} {c} {ps} p h s d w = subst (λ (x : ℕ). Walk g x c (p ∷ ps)) s (go p h (rw d w))

-- A walk of the computational graph without a token, with a place at least, from the read of a to the read of b.
record Clear (g : Plan) (a b : ℕ) : Type 0 where
  ps : List ℕ
  walk : Walk (net_of g) (read_of a) (read_of b) ps
  some : 1 ≤ length ps
  none : tokens (start_of g) ps ≡ 0

-- The same to each node of the graph itself.
abbrev ClearTo : Plan → ℕ → ℕ → Type 0
ClearTo g a v = v ≤ g.operations + 1 → Clear g a v

module _ {g : Plan} (ok : Passing g) where
  -- An unmarked edge out of an operation: data read, data processed, full.
  module _ (e : ℕ) (h : e < g.edges) (k : g.mark e ≡ 0) (l : 1 ≤ g.from e) where
    across : {b : ℕ} {ps : List ℕ} → Walk (net_of g) (read_of (g.to e)) b ps → Walk (net_of g) (read_of (g.from e)) b ((3 * g.from e - 3) ∷ (3 * g.from e - 2) ∷ (3 * g.operations + 2 * e) ∷ ps)
    across w =
        let n = g.operations in
        let f = g.from in
        let t = g.to in
        let a = g.from e in
        let le : a ≤ n = ok.leaves e h in
        step (3 * a - 3) (omega arith) (src_op n f t (3 * a - 3) (omega arith) ∙ omega arith) (dst_op n f t (3 * a - 3) (omega arith) (λ j. omega arith))
        (step (3 * a - 2) (omega arith) (src_op n f t (3 * a - 2) (omega arith) ∙ omega arith) (dst_op n f t (3 * a - 2) (omega arith) (λ j. omega arith) ∙ omega arith)
        (step (3 * n + 2 * e) (omega arith) (full_src n f t e) (full_dst n f t e) w))

    across_none : (ps : List ℕ) → tokens (start_of g) ps ≡ 0 → tokens (start_of g) ((3 * g.from e - 3) ∷ (3 * g.from e - 2) ∷ (3 * g.operations + 2 * e) ∷ ps) ≡ 0
    unfolding sum
    across_none ps z =
        let n = g.operations in
        let a = g.from e in
        let le : a ≤ n = ok.leaves e h in
        let read = start_ring n g.mark (3 * a - 3) (omega arith) (λ j. omega arith) in
        let processed = start_ring n g.mark (3 * a - 2) (omega arith) (λ j. omega arith) in
        omega (arith, read, processed, full_start n g.mark e, k)

  -- From an operation a path comes to every node of the graph by a walk without a token.
  clears : {a b : ℕ} {ns : List ℕ} → Path g a b ns → 1 ≤ a → All (ClearTo g a) ns
  unfolding sum
  clears modified.stop l = tt
  clears (modified.go {ns = ns} (modified.stays e h k) p) l = (
    λ i. record { ps = _; walk = across e h k l stop; some = omega arith; none = across_none e h k l [] (omega arith) },
    all_map {P = ClearTo g (g.to e)} {Q = ClearTo g (g.from e)}
        (λ v r i. let c = r i in record { ps = _; walk = across e h k l c.walk; some = omega arith; none = across_none e h k l c.ps c.none })
        ns
        (clears p (ok.enters e h)),
  )
  clears (modified.go (modified.begins e h k) p) l = absurd (omega arith)
  clears (modified.go (modified.ends e h k) p) l = (λ i. absurd (omega arith), rw (sink_ends ok p (omega arith)).0 tt)

  no_ring : {a v : ℕ} → Clear g a v → a ≢ v
  no_ring {a} c e = omega (arith, ok.live (read_of a) c.ps (subst (λ (x : ℕ). Walk (net_of g) (read_of a) (read_of x) c.ps) (sym e) c.walk) c.some, c.none)

  leaves_for_good : {a b : ℕ} {ns : List ℕ} → Path g a b ns → 1 ≤ a → Avoids a ns
  leaves_for_good modified.stop l = tt
  leaves_for_good {a} {ns} (modified.go k p) l =
      all_map {P = ClearTo g a} {Q = λ (v : ℕ). a ≢ v} (λ v r i. no_ring (r (omega (arith, link_leaves ok k))) i) ns (clears (modified.go k p) l)

  -- A path comes to no node twice.
  pub path_distinct : {a b : ℕ} {ns : List ℕ} → Path g a b ns → Distinct ns
  path_distinct modified.stop = tt
  path_distinct (modified.go k p) = (leaves_for_good p (link_enters ok k), path_distinct p)

-- The times of all nodes up to i, then of all nodes: the operations' alone count.
module _ (g : Plan) where
  abbrev times : ℕ → ℕ
  times = node_time g.operations g.time

  operations_time : (i : ℕ) → i ≤ g.operations → upto times (suc i) ≡ upto (λ (j : ℕ). g.time (j + 1)) i
  unfolding upto
  operations_time zero h = omega (arith, time_source g.operations g.time 0 refl)
  operations_time (suc i) h = omega (arith, operations_time i (omega arith), time_operation g.operations g.time (suc i) (omega arith) h, ap g.time (add-one i))

  nodes_time : (m : ℕ) → g.operations < m → upto times m ≡ effort g
  unfolding upto
  nodes_time zero h = absurd (omega arith)
  nodes_time (suc m) h = at (ℕ_discrete m g.operations) (nodes_time m)
    where
      at : Dec (m ≡ g.operations) → (g.operations < m → upto times m ≡ effort g) → upto times (suc m) ≡ effort g
      at (yes e) r = rw e (operations_time g.operations (omega arith))
      at (no k) r = omega (arith, r (omega arith), time_sink g.operations g.time m (omega arith))

-- A path takes no longer than all operations together.
pub path_effort : {g : Plan} → Passing g → {a b : ℕ} {ns : List ℕ} → Path g a b ns → path_time g ns ≤ effort g
path_effort {g} ok {ns} p =
    let m : ℕ = g.operations + 2 + g.edges in
    omega (arith, sum_distinct (times g) m ns (path_within ok p) (path_distinct ok p), nodes_time g m (omega arith))
