-- What raising entries edge by edge does to an array of finishes.
use Rattle.std.specs.Prelude.{◌≡◌, Bool, false, true, List, ◌+◌, ◌<◌, ◌≤◌, ℕ, eqb, length, set}
use Rattle.marked.specs.Net.{at}
use Rattle.net.specs.Limits.{most_nodes}
use Rattle.net.specs.Plan.{Plan, rows, time_at}
use Rattle.net.specs.Ends.{pick}
use Rattle.net.specs.Good.{Good}
use Rattle.net.specs.declared.rows.Accepted.{Accepted}
use Rattle.marked.specs.Sums.{total}
use Rattle.paths_finish.specs.Modified.{Path, node_time, path_time}
use Rattle.paths_finish.specs.Longest.{Longest}

-- A path of the modified graph from some node to v takes x.
pub record PathTo (g : Plan) (v x : ℕ) : Type 0 where
  pub begin : ℕ
  pub nodes : List ℕ
  pub path : Path g begin v nodes
  pub has : path_time g nodes ≡ x

-- A graph whose paths can be followed, and an array in which each entry is what some path to its node takes.
pub record Backed (n e : ℕ) (times from to mark buffers finish : List ℕ) : Type 0 where
  pub good : Good n e times from to mark buffers
  pub long : length finish ≡ most_nodes
  pub chains : (v : ℕ) → PathTo (rows n e times from to mark buffers) v (at finish v)

-- When the target of edge k can be done as far as this edge goes: its own time after the edge's data is there, which is at once if it is marked, else
-- when its origin is done.
unfoldable pub done_by : ℕ → List ℕ → List ℕ → List ℕ → List ℕ → List ℕ → ℕ → ℕ
done_by n times from to mark finish k = pick (eqb (at mark k) 0) (at finish (at from k)) 0 + node_time n (time_at times) (at to k)

-- The same of a graph whose rules are kept.
abbrev pub offered_by : Accepted → List ℕ → ℕ → ℕ
offered_by g finish k =
    done_by g.plotted.wiring.operations g.times.now g.plotted.wiring.from.now g.plotted.wiring.to.now g.plotted.mark.now finish k

-- The entry of v is raised to x and the flag set, or both are kept.
pub data Lifted (d : List ℕ) (v x : ℕ) (before : Bool) : List ℕ → Bool → Type 0 where
  lifted : at d v < x → Lifted d v x before (set d v x) true
  kept : x ≤ at d v → Lifted d v x before d before

-- None of the first k edges offers more than its target's entry.
abbrev pub NoneLater : ℕ → List ℕ → List ℕ → List ℕ → List ℕ → ℕ → List ℕ → Type 0
NoneLater n times from to mark k d = (j : ℕ) → j < k → done_by n times from to mark d j ≤ at d (at to j)

-- The first k edges took the array from a to d; the flag tells whether an entry was raised.
pub record EdgesSwept (n e : ℕ) (times from to mark buffers : List ℕ) (k : ℕ) (a d : List ℕ) (after : Bool) : Type 0 where
  pub backed : Backed n e times from to mark buffers d
  pub rises : total a ≤ total d
  pub quiet : after ≡ false → (d ≡ a) × NoneLater n times from to mark k d
  pub loud : after ≡ true → total a < total d

-- No edge raises an entry any more.
pub record AllDone (n e : ℕ) (times from to mark buffers d : List ℕ) : Type 0 where
  pub backed : Backed n e times from to mark buffers d
  pub settled : NoneLater n times from to mark e d

-- Entry v of finish is the largest sum on a path to node v, for every node of the graph: when its operation is done, if nothing but data is waited for.
pub record Finished (n e : ℕ) (times from to mark buffers finish : List ℕ) : Type 0 where
  pub long : length finish ≡ most_nodes
  pub each : (v : ℕ) → v ≤ n + 1 → Longest (rows n e times from to mark buffers) (λ (b : ℕ). b ≡ v) (at finish v)
