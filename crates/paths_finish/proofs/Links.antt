-- Laws of the modified graph: what a link leaves and enters, paths end to end, and the time of a node.
use mathlib.Core.Path.{◌≡◌, refl}
use mathlib.Core.List.{List, [], ◌++◌}
use Prim.Native.Nat.{◌+◌, ◌<◌, ◌≤◌, ℕ}
use native.Mathlib.Omega.{arith}
use borrow.Author.Tests.{le-leb, le-ltb, lt-leb, lt-ltb}
use Rattle.marked.specs.Lists.{All}
use Rattle.net.specs.Plan.{Plan}
use Rattle.paths_finish.specs.Modified.{Link, Path, begins, ends, go, node_time, stays, stop}
use Rattle.paths_finish.proofs.Passing.{Passing}

module _ {g : Plan} (ok : Passing g) where
  -- A link leaves the source or an operation,
  pub link_leaves : {a b : ℕ} → Link g a b → a ≤ g.operations
  link_leaves (stays e h k) = ok.leaves e h
  link_leaves (begins e h k) = omega arith
  link_leaves (ends e h k) = ok.leaves e h

  -- and enters another node than the source,
  pub link_enters : {a b : ℕ} → Link g a b → 1 ≤ b
  link_enters (stays e h k) = ok.enters e h
  link_enters (begins e h k) = ok.enters e h
  link_enters (ends e h k) = omega arith

  -- one of those that there are.
  pub link_within : {a b : ℕ} → Link g a b → b < g.operations + 2 + g.edges
  link_within (stays e h k) = omega (arith, ok.ends e h)
  link_within (begins e h k) = omega (arith, ok.ends e h)
  link_within (ends e h k) = omega arith

  pub path_within : {a b : ℕ} {ns : List ℕ} → Path g a b ns → All (◌< g.operations + 2 + g.edges) ns
  path_within stop = tt
  path_within (go l p) = (link_within l, path_within p)

  -- No path goes on from a sink,
  pub sink_ends : {a b : ℕ} {ns : List ℕ} → Path g a b ns → g.operations < a → (ns ≡ []) × (b ≡ a)
  sink_ends stop h = (refl, refl)
  sink_ends (go l p) h = absurd (omega (arith, link_leaves l))

  -- and none comes to the source.
  path_enters : {a b : ℕ} {ns : List ℕ} → Path g a b ns → 1 ≤ a → 1 ≤ b
  path_enters stop h = h
  path_enters (go l p) h = path_enters p (link_enters l)

  pub source_begins : {a b : ℕ} {ns : List ℕ} → Path g a b ns → b ≡ 0 → ns ≡ []
  source_begins stop h = refl
  source_begins (go l p) h = absurd (omega (arith, path_enters p (link_enters l)))

pub then : {g : Plan} {a b c : ℕ} {ms ns : List ℕ} → Path g a b ms → Path g b c ns → Path g a c (ms ++ ns)
then stop q = q
then (go l p) q = go l (then p q)

module _ (n : ℕ) (time : ℕ → ℕ) (v : ℕ) where
  pub time_source : v ≡ 0 → node_time n time v ≡ 0
  unfolding node_time
  time_source h = simp (le-ltb 0 v (omega arith))

  pub time_operation : 1 ≤ v → v ≤ n → node_time n time v ≡ time v
  unfolding node_time
  time_operation h k = simp (lt-ltb 0 v h, le-leb _ _ k)

  pub time_sink : n < v → node_time n time v ≡ 0
  unfolding node_time
  time_sink h = simp (lt-ltb 0 v (omega arith), lt-leb _ _ h)
