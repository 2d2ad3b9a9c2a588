-- A graph that keeps its counts and its rows is good.
use mathlib.Core.List.{List}
use Prim.Native.Nat.{◌%◌, ◌*◌, ◌+◌, ◌-◌, ◌/◌, ◌<◌, ◌≤◌, ℕ}
use native.Mathlib.Decide.{dec_lt, ℕ_discrete}
use native.Mathlib.Omega.{arith}
use Rattle.refusal.specs.Asking.{Sound}
use lib.ListN.{length}
use Rattle.marked.specs.Net.{Walk, at, go, stop}
use Rattle.marked.specs.Circuits.{Live}
use Rattle.marked.proofs.Alive.{live_circuits}
use Rattle.net.specs.Limits.{EdgeCount, OperationCount, longest_time}
use Rattle.net.specs.Plan.{Plan, rows, time_at}
use Rattle.net.specs.Ends.{start_at, time_of}
use Rattle.net.specs.Graph.{net_of, start_of}
use Rattle.net.specs.Rules.{Alive, Allowed, Edge, Transition, graph_rows}
use Rattle.net.specs.Good.{Good, Marked, Wired}
use Rattle.net.proofs.Shapes.{start_ready, start_ring, start_single, time_other, time_process, wired_proper}

module _ {n e : ℕ} (times from to mark buffers : List ℕ) (few : OperationCount n) (several : EdgeCount e) where
  abbrev g : Plan
  g = rows n e times from to mark buffers

  -- Counts within their limits, and row 6: the graph is wired,
  pub allowed_wired : ((k : ℕ) → Edge g k → Allowed g k) → Wired n e from to
  allowed_wired ok =
      record {
        some = few.low_met;
        operations = few.high_met;
        edges = several.high_met;
        leaves = λ k h. (ok k h).leaves;
        enters = λ k h. (ok k h).enters.low_met;
        ends = λ k h. (ok k h).enters.high_met;
      }

  -- and marked.
  pub allowed_marked : ((k : ℕ) → Edge g k → Allowed g k) → Marked n e mark
  allowed_marked ok = record { operations = few.high_met; edges = several.high_met; single = λ k h. (ok k h).marked }

  -- Row 9 at every transition: every circuit has a token.
  alive_live : Wired n e from to → ((t : ℕ) → Transition g t → Alive g t) → Live (net_of g) (start_of g)
  alive_live ok alive = (live_circuits (net_of g) (start_of g)).1 (λ a ps c. alive a (inside c.walk c.some) ps c)
    where
      inside : {a b : ℕ} {ps : List ℕ} → Walk (net_of g) a b ps → 1 ≤ length ps → a < (net_of g).transitions
      inside stop h = absurd (omega arith)
      inside (go p l w) h = (wired_proper ok).src_in p l

  -- The counts and the rows together.
  pub sound_good : Sound (graph_rows g) → Good n e times from to mark buffers
  sound_good ok =
      let allowed = ok.kept.1.0 in
      let wired = allowed_wired allowed in
      record {
        wired = wired;
        marked = allowed_marked allowed;
        timely = ok.kept.0;
        linked = ok.kept.1.1.0;
        joined = ok.kept.1.1.1.0;
        live = alive_live wired ok.kept.1.1.1.1.0;
      }

-- No place of a marked graph has more than one token at the start,
pub marked_few : {n e : ℕ} {mark : List ℕ} → Marked n e mark → (p : ℕ) → p < 3 * n + 2 * e → start_at n (at mark) p ≤ 1
marked_few {n} {e} {mark} ok p h = elim (dec_lt p (3 * n)) [
  | yes k ↦ elim (ℕ_discrete (p % 3) 2) [
    | yes j ↦ omega (arith, start_ready n (at mark) p k j)
    | no j ↦ omega (arith, start_ring n (at mark) p k j)
  ]
  | no k ↦ start_single n (at mark) p (ok.single ((p - 3 * n) / 2) (omega arith))
]

-- and no transition of a good graph takes longer than an operation may.
pub good_short : {n e : ℕ} {times from to mark buffers : List ℕ} → Good n e times from to mark buffers → (t : ℕ) → t < 3 * n + 2 → time_of (time_at times) t ≤ longest_time
good_short {times = times} ok t h = elim (ℕ_discrete (t % 3) 2) [
  | yes k ↦ omega (arith, time_process (time_at times) t k, (ok.timely (t / 3 + 1) (record { low_met = omega arith; high_met = omega arith })).high_met)
  | no k ↦ omega (arith, time_other (time_at times) t k)
]
