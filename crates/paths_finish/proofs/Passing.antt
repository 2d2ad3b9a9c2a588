-- What the paths lean on, told of a plan: every good graph has it.
use mathlib.Core.List.{List}
use Prim.Native.Nat.{◌+◌, ◌<◌, ◌≤◌, ℕ}
use Rattle.marked.specs.Circuits.{Live}
use Rattle.net.specs.Limits.{longest_time, most_operations}
use Rattle.net.specs.Plan.{Plan, rows}
use Rattle.net.specs.Graph.{net_of, start_of}
use Rattle.net.specs.Rules.{Touched}
use Rattle.net.specs.Good.{Good}

-- Limits (refusals 3 and 6), times (refusal 5), an edge into every node but the source (refusal 7), and a token on every circuit (refusal 9).
pub record Passing (g : Plan) : Type 0 where
  pub operations : g.operations ≤ most_operations
  pub leaves : (e : ℕ) → e < g.edges → g.from e ≤ g.operations
  pub enters : (e : ℕ) → e < g.edges → 1 ≤ g.to e
  pub ends : (e : ℕ) → e < g.edges → g.to e ≤ g.operations + 1
  pub timely : (i : ℕ) → 1 ≤ i → i ≤ g.operations → g.time i ≤ longest_time
  pub entered : (v : ℕ) → 1 ≤ v → v ≤ g.operations + 1 → Touched g.edges g.to v
  pub live : Live (net_of g) (start_of g)

pub good_passing : {n e : ℕ} {times from to mark buffers : List ℕ} → Good n e times from to mark buffers → Passing (rows n e times from to mark buffers)
good_passing ok =
    record {
      operations = ok.wired.operations;
      leaves = ok.wired.leaves;
      enters = ok.wired.enters;
      ends = ok.wired.ends;
      timely = λ i l h. (ok.timely i (record { low_met = l; high_met = h })).high_met;
      entered = λ v l h. (ok.linked v h).into l;
      live = ok.live;
    }
