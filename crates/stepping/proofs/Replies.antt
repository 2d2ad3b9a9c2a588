-- The replies of `start`, `step` and `run` are one each, and blind to labels.
use mathlib.Core.Path.{◌≡◌, ◌∙◌, ap, refl, subst, sym}
use mathlib.Core.List.{List}
use Prim.Native.Nat.{◌<◌, ℕ}
use native.Mathlib.Omega.{arith}
use lib.Seq.{ext_get_or}
use Rattle.refusal.specs.declared.Refusal.{Refusal}
use Rattle.net.specs.Plan.{Plan}
use Rattle.net.specs.Graph.{net_of}
use Rattle.file.specs.Labels.{SameButLabels}
use Rattle.reader.specs.Reply.{shown}
use Rattle.reader.specs.declared.graph.Graph.{Graph}
use Rattle.reader.proofs.Outcomes.{accepted_not_refused, accepted_same, outcome_carries, outcome_determined, refusal_same}
use Rattle.accepting.specs.Rows.{run_rows, start_rows}
use Rattle.firing.specs.Step.{Steps}
use Rattle.firing.proofs.Steps.{steps_determined}
use Rattle.running.specs.declared.repeat.Ran.{Ran}
use Rattle.running.specs.Run.{Runs}
use Rattle.running.proofs.Determined.{runs_determined}
use Rattle.stepping.specs.Replies.{AtStart, RunReply, StartReply, StepReply}
use Rattle.stepping.specs.Replies.StartReply.{refused as start_refused, started}
use Rattle.stepping.specs.Replies.StepReply.{refused as step_refused, stepped}
use Rattle.stepping.specs.Replies.RunReply.{ran, refused as run_refused}
use Rattle.std.specs.Prelude.{Err}
use Rattle.refusal.specs.Asking.{Verdict}

-- The starting marking of a graph is one list of bytes.
pub at_start_determined : {g : Plan} {y z : List ℕ} → AtStart g y → AtStart g z → y ≡ z
at_start_determined {g} {y} {z} a b =
    ext_get_or 0 y z (a.fits ∙ sym b.fits) (λ p l. let h : p < (net_of g).places = omega (arith, a.fits) in a.tokens p h ∙ sym (b.tokens p h))

-- The reply of `start`, and every byte of the buffer after it, are determined.
pub start_determined : (f m y z : List ℕ) (a b : Verdict) → StartReply f m a y → StartReply f m b z → (a ≡ b) × (y ≡ z)
start_determined f m y z a b (started p s) (started q t) =
    (refl, at_start_determined (subst (λ (g : Graph). AtStart (shown g) y) (accepted_same (outcome_determined f (start_rows m) p q)) s) t)
start_determined f m y z a b (started p s) (start_refused q) = accepted_not_refused (outcome_determined f (start_rows m) p q)
start_determined f m y z a b (start_refused p) (started q t) = accepted_not_refused (outcome_determined f (start_rows m) q p)
start_determined f m y z a b (start_refused p) (start_refused q) =
    (ap (λ (r : Refusal). Err r) (refusal_same (outcome_determined f (start_rows m) p q)), refl)

-- The answer of `step`, and every byte of the marking after it, are determined.
pub step_determined : (f m y z : List ℕ) (t : ℕ) (a b : Verdict) → StepReply f m t a y → StepReply f m t b z → (a ≡ b) × (y ≡ z)
step_determined f m y z t a b (stepped p s) (stepped q u) =
    steps_determined (subst (λ (g : Graph). Steps (net_of (shown g)) m t a y) (accepted_same (outcome_determined f (run_rows m) p q)) s) u
step_determined f m y z t a b (stepped p s) (step_refused q) = accepted_not_refused (outcome_determined f (run_rows m) p q)
step_determined f m y z t a b (step_refused p) (stepped q u) = accepted_not_refused (outcome_determined f (run_rows m) q p)
step_determined f m y z t a b (step_refused p) (step_refused q) = (ap (λ (r : Refusal). Err r) (refusal_same (outcome_determined f (run_rows m) p q)), refl)

-- Replies of `run` with the same count and end are one.
same_ran : (r s : Ran) → r.fired ≡ s.fired → r.end ≡ s.end → r ≡ s
same_ran r s i j = λ k. record { fired = i k; end = j k }

-- The reply of `run`, its count too, and every byte of the marking after it, are determined.
pub run_determined : (f m list y z : List ℕ) (r s : Ran) → RunReply f m list r y → RunReply f m list s z → (r ≡ s) × (y ≡ z)
run_determined f m list y z r s (ran p u) (ran q v) =
    let e = accepted_same (outcome_determined f (run_rows m) p q) in
    let d = runs_determined (subst (λ (g : Graph). Runs (net_of (shown g)) m list r.fired r.end y) e u) v in
    (same_ran r s d.0 d.1, d.2)
run_determined f m list y z r s (ran p u) (run_refused q) = accepted_not_refused (outcome_determined f (run_rows m) p q)
run_determined f m list y z r s (run_refused p) (ran q v) = accepted_not_refused (outcome_determined f (run_rows m) q p)
run_determined f m list y z r s (run_refused p) (run_refused q) =
    (ap (λ (x : Refusal). record { fired = 0; end = Err x }) (refusal_same (outcome_determined f (run_rows m) p q)), refl)

-- A reply for a file, with its bytes, is one for each file that differs only in labels;
pub start_carries : {f g m z : List ℕ} {a : Verdict} → SameButLabels f g → StartReply f m a z → StartReply g m a z
start_carries s (started p h) = started (outcome_carries s p) h
start_carries s (start_refused p) = start_refused (outcome_carries s p)

pub step_carries : {f g m z : List ℕ} {t : ℕ} {a : Verdict} → SameButLabels f g → StepReply f m t a z → StepReply g m t a z
step_carries s (stepped p h) = stepped (outcome_carries s p) h
step_carries s (step_refused p) = step_refused (outcome_carries s p)

pub run_carries : {f g m list z : List ℕ} {r : Ran} → SameButLabels f g → RunReply f m list r z → RunReply g m list r z
run_carries s (ran p h) = ran (outcome_carries s p) h
run_carries s (run_refused p) = run_refused (outcome_carries s p)

-- so files that differ only in labels get equal replies, and leave equal bytes.
pub start_label_blind : (f g m y z : List ℕ) (a b : Verdict) → SameButLabels f g → StartReply f m a y → StartReply g m b z → (a ≡ b) × (y ≡ z)
start_label_blind f g m y z a b s p q = start_determined g m y z a b (start_carries s p) q

pub step_label_blind : (f g m y z : List ℕ) (t : ℕ) (a b : Verdict) → SameButLabels f g → StepReply f m t a y → StepReply g m t b z → (a ≡ b) × (y ≡ z)
step_label_blind f g m y z t a b s p q = step_determined g m y z t a b (step_carries s p) q

pub run_label_blind : (f g m list y z : List ℕ) (r s : Ran) → SameButLabels f g → RunReply f m list r y → RunReply g m list s z → (r ≡ s) × (y ≡ z)
run_label_blind f g m list y z r s same p q = run_determined g m list y z r s (run_carries same p) q
