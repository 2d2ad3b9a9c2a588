-- What the helpers of `start`, `step` and `run` answer for a graph that look has accepted.
use Rattle.std.specs.Prelude.{◌≡◌, List, ◌*◌, ◌+◌, ℕ, length, Err, Ok}
use Rattle.refusal.specs.Asking.{Given, Sound, Verdict}
use Rattle.refusal.specs.declared.Refusal.{Refusal}
use Rattle.net.specs.Plan.{Plan}
use Rattle.net.specs.Graph.{net_of}
use Rattle.net_start.specs.helpers.Start.{Started as Written}
use Rattle.accepting.specs.Rows.{run_rows}
use Rattle.firing.specs.Step.{Steps}
use Rattle.running.specs.declared.repeat.Ran.{Ran}
use Rattle.running.specs.Run.{Runs}
use Rattle.refusal.specs.declared.Reason.TheVariants.{MarkingWrong}

-- The buffer has one byte a place and is filled, or 10 is given.
pub data GraphStarted (n e : ℕ) (mark m : List ℕ) : Verdict → List ℕ → Type 0 where
  filled : {z : List ℕ} → length m ≡ 3 * n + 2 * e → Written n mark 0 (3 * n + 2 * e) m z → GraphStarted n e mark m (Ok tt) z
  unfit : (length m ≡ 3 * n + 2 * e → ⊥) → GraphStarted n e mark m (Err (record { reason = MarkingWrong; place = 0 })) m

-- The marking is accepted and the step is taken, or 10 or 11 is given.
pub data GraphStepped (g : Plan) (m : List ℕ) (t : ℕ) : Verdict → List ℕ → Type 0 where
  taken : {a : Verdict} {z : List ℕ} → Sound (run_rows m g) → Steps (net_of g) m t a z → GraphStepped g m t a z
  kept : {r : Refusal} → Given (run_rows m g) r → GraphStepped g m t (Err r) m

-- The marking is accepted and the list is run, or 10 or 11 is given.
pub data GraphRun (g : Plan) (m list : List ℕ) : Ran → List ℕ → Type 0 where
  taken : {r : Ran} {z : List ℕ} → Sound (run_rows m g) → Runs (net_of g) m list r.fired r.end z → GraphRun g m list r z
  kept : {r : Refusal} → Given (run_rows m g) r → GraphRun g m list (record { fired = 0; end = Err r }) m
