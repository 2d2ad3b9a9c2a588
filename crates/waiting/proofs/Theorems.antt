-- The wait's reply is one, is blind to labels, meets the three sentences of the wait, and is short.
use mathlib.Core.Path.{◌≡◌, ap, refl, subst}
use mathlib.Core.List.{List}
use Prim.Native.Nat.{◌≤◌, ℕ}
use native.Mathlib.Omega.{arith}
use Rattle.marked.specs.Net.{at}
use Rattle.marked.specs.Wait.{Demand3, WaitSum}
use Rattle.marked.proofs.Demand.{wait_most, wait_reached, wait_sum_unique, waits_unique}
use Rattle.net.specs.Graph.{net_of}
use Rattle.net.proofs.Shapes.{wired_proper}
use Rattle.file.specs.Labels.{SameButLabels}
use Rattle.reader.specs.Reply.{LookReply, shown}
use Rattle.reader.specs.Outcome.{passed}
use Rattle.reader.specs.declared.graph.Graph.{Graph}
use Rattle.reader.proofs.Accepting.{accepted_good}
use Rattle.reader.proofs.Determined.{look_determined}
use Rattle.reader.proofs.Outcomes.{accepted_not_refused, accepted_same, outcome_carries, outcome_determined, refusal_same}
use Rattle.accepting.specs.Rows.{wait_rows}
use Rattle.waiting.specs.Reply.{WaitReply}
use Rattle.waiting.specs.Reply.WaitReply.{refused, waits}
use Rattle.waiting.specs.Demand.{Demanded}
use Rattle.std.specs.Prelude.{Err, Ok, Result}
use Rattle.refusal.specs.declared.Refusal.{Refusal}

-- Two replies that `WaitReply` allows are equal.
pub wait_determined : (f m : List ℕ) (t : ℕ) (r s : Result ℕ Refusal) → WaitReply f m t r → WaitReply f m t s → r ≡ s
wait_determined f m t r s (waits {w = v} p x) (waits q y) =
    let e = accepted_same (outcome_determined f (wait_rows m t) p q) in
    ap Ok (wait_sum_unique (subst (λ (g : Graph). WaitSum (net_of (shown g)) (at m) t v) e x) y)
wait_determined f m t r s (waits p x) (refused q) = accepted_not_refused (outcome_determined f (wait_rows m t) p q)
wait_determined f m t r s (refused p) (waits q y) = accepted_not_refused (outcome_determined f (wait_rows m t) q p)
wait_determined f m t r s (refused p) (refused q) = ap (λ x. Err x) (refusal_same (outcome_determined f (wait_rows m t) p q))

-- A reply for a file is one for each file that differs only in labels,
pub wait_carries : {f g m : List ℕ} {t : ℕ} {r : Result ℕ Refusal} → SameButLabels f g → WaitReply f m t r → WaitReply g m t r
wait_carries s (waits p x) = waits (outcome_carries s p) x
wait_carries s (refused p) = refused (outcome_carries s p)

-- so files that differ only in labels get equal replies.
pub wait_label_blind : (f g m : List ℕ) (t : ℕ) (r s : Result ℕ Refusal) → SameButLabels f g → WaitReply f m t r → WaitReply g m t s → r ≡ s
wait_label_blind f g m t r s same p q = wait_determined g m t r s (wait_carries same p) q

-- The three sentences of the wait, end to end: the number that `wait` returns meets all three sentences about all firing sequences of look's graph, and is the only one that does.
pub wait_answers_demand : (f m : List ℕ) (t w : ℕ) (g : Graph) → LookReply f (Ok g) → WaitReply f m t (Ok w) → Demanded g m t w
wait_answers_demand f m t w g p (waits (passed {g = h} q s) x) =
    let a = accepted_good f q in
    let d : Demand3 (net_of (shown h)) (at m) t w = wait_reached (wired_proper a.wired) a.live (s.kept.1.0 0 refl) x in
    let same : h ≡ g = (let e = look_determined f (Ok h) (Ok g) q p in cc) in
    subst (λ (k : Graph). Demanded k m t w) same (record { meets = d; only = λ v h. waits_unique h d })

-- No wait is longer than 122 · 122 firings.
pub wait_small : (f m : List ℕ) (t w : ℕ) → WaitReply f m t (Ok w) → w ≤ 14884
wait_small f m t w (waits (passed q s) x) =
    let a = accepted_good f q in
    wait_most (wired_proper a.wired) 122 1 (omega (arith, a.wired.operations)) (s.kept.0 0 refl).single x
