-- The reply of report is one, every byte of the buffer included; it is blind to labels; 14 comes first; it fits its room; and each wait that it prints meets the three sentences of the wait.
use mathlib.Core.Path.{◌≡◌, ◌∙◌, ap, refl, subst, sym}
use mathlib.Core.List.{List}
use Rattle.std.specs.Prelude.{Result, Ok, Err}
use Prim.Native.Nat.{ℕ, ◌*◌, ◌+◌, ◌<◌, ◌≤◌}
use native.Mathlib.Omega.{arith}
use lib.ListN.{length}
use Rattle.refusal.specs.Asking.{Given}
use Rattle.refusal.specs.Numbers.{number_of}
use Rattle.refusal.specs.declared.Reason.TheVariants.{RoomShort}
use Rattle.refusal.specs.declared.Refusal.{Refusal}
use Rattle.refusal.proofs.Asked.{given_here, lowest_whole}
use Rattle.refusal.proofs.Determined.{given_unique, sound_not_given}
use Rattle.marked.specs.Wait.{Demand3}
use Rattle.marked.proofs.Demand.{wait_sum_unique}
use Rattle.marked.proofs.Largest.{largest_unique}
use Rattle.marked.proofs.Wait.{wait_demand}
use Rattle.net.specs.Graph.{net_of, start_of, times_of}
use Rattle.net.specs.Good.{Good}
use Rattle.net.proofs.Shapes.{wired_proper}
use Rattle.file.specs.Labels.{SameButLabels}
use Rattle.reader.specs.Reply.{declined, shown}
use Rattle.reader.specs.Outcome.{Ends, accepted, passed, refused as stopped, unread}
use Rattle.reader.specs.declared.graph.Graph.{Graph}
use Rattle.reader.proofs.Accepting.{accepted_good}
use Rattle.reader.proofs.Outcomes.{accepted_not_refused, accepted_same, outcome_carries, outcome_determined, refusal_same}
use Rattle.paths.proofs.Order.{tbio_unique, tce_unique, tt_unique}
use Rattle.circuit.specs.Chosen.{Chosen}
use Rattle.circuit.proofs.Unique.{chosen_unique}
use Rattle.bounds_graph.specs.declared.reply.Measures.{Measures}
use Rattle.pen_put.proofs.PutLaws.{series_same, put_length, put_unique}
use Rattle.report_text.specs.Text.{refused_line, report_text, wait_line, wait_lines, wait_of}
use Rattle.report_text.proofs.FitLaws.{refused_fits}
use Rattle.report.specs.Reply.{ReportReply, refused, report_rows, room_rows, short, written}
use Rattle.report_graph.specs.Length.{length_of}
use Rattle.report_graph.specs.Numbers.{Numbers, text_of}
use Rattle.report_text.specs.Room.{report_bytes}
use Rattle.report_graph.specs.declared.reply.RefusedReport.{RefusedReport}
use Rattle.report.proofs.Refusals.{given_small}
use Rattle.report_graph.proofs.Small.{numbers_fit}

-- A graph that the report goes on with is good, for look has accepted it.
pub reported_good : {f : List ℕ} {g : Graph} → Ends f report_rows (accepted g)
    → Good g.operations g.edges g.times g.from g.to g.mark g.buffers
reported_good {f} (passed q s) = accepted_good f q

-- One graph has one report.
one_text : {g : Graph} {v w : Measures} {ring other : List ℕ} {waits sums : ℕ → ℕ}
    → Good g.operations g.edges g.times g.from g.to g.mark g.buffers
    → Numbers (shown g) v ring waits → Numbers (shown g) w other sums → text_of (shown g) v ring waits ≡ text_of (shown g) w other sums
unfolding report_text wait_lines
one_text {g} {v} {w} {ring} {waits = waits} {sums = sums} ok p q =
    let net = net_of (shown g) in
    let start = start_of (shown g) in
    let time = times_of (shown g) in
    let a = v.numerator in
    let b = v.denominator in
    let e = largest_unique net start time ok.live a b w.numerator w.denominator p.tbo.largest q.tbo.largest p.tbo.reduced q.tbo.reduced in
    let e₀ = e.0 in
    let e₁ = e.1 in
    let h : Chosen net start time w.numerator w.denominator ring = rw (sym e₀, sym e₁) p.circuit in
    let e₂ = chosen_unique h q.circuit in
    let e₃ = tbio_unique p.tbio q.tbio in
    let e₄ = tt_unique p.tt q.tt in
    let e₅ = tce_unique (shown g) p.tce q.tce in
    let e₆ = series_same (wait_of waits) (wait_of sums) (3 * g.operations + 2) (λ t l. ap (wait_line t) (wait_sum_unique (p.waits t l) (q.waits t l))) in
    cc

-- Two replies that `ReportReply` allows are equal, and so is every byte of the buffer after them.
pub report_determined : (f before : List ℕ) (r s : Result ℕ RefusedReport) (after after' : List ℕ) → ReportReply f before r after → ReportReply f before s after' → (r ≡ s) × (after ≡ after')
report_determined f before r s after after' (short p) (short q) = (ap (λ (x : Refusal). Err (record { refusal = x; length = 0 })) (given_unique p q), refl)
report_determined f before r s after after' (short p) (refused k e q) = absurd (sound_not_given k p)
report_determined f before r s after after' (short p) (written k e n q) = absurd (sound_not_given k p)
report_determined f before r s after after' (refused k e p) (short q) = absurd (sound_not_given k q)
report_determined f before r s after after' (written k e n p) (short q) = absurd (sound_not_given k q)
report_determined f before r s after after' (refused {r = x} _ e p) (refused {r = y} {len = len} _ d q) =
    let same : x ≡ y = refusal_same (outcome_determined f report_rows e d) in
    let puts = put_unique (ap (λ (z : Refusal). refused_line (number_of z.reason) z.place) same) p q in
    let long = puts.0 in
    (cc, puts.1)
report_determined f before r s after after' (refused _ e p) (written _ d n q) = accepted_not_refused (outcome_determined f report_rows d e)
report_determined f before r s after after' (written _ e n p) (refused _ d q) = accepted_not_refused (outcome_determined f report_rows e d)
report_determined f before r s after after' (written {v = v} {ring = ring} {wait = wait} _ e n p) (written {g = h} _ d m q) =
    let same = accepted_same (outcome_determined f report_rows e d) in
    let k : Numbers (shown h) v ring wait = subst (λ (x : Graph). Numbers (shown x) v ring wait) same n in
    let text = ap (λ (x : Graph). text_of (shown x) v ring wait) same in
    let puts = put_unique (text ∙ one_text (reported_good d) k m) p q in
    (ap (λ (l : ℕ). Ok l) puts.0, puts.1)

-- A reply for a file is one for each file that differs only in labels,
report_carries : {f g before after : List ℕ} {r : Result ℕ RefusedReport} → SameButLabels f g → ReportReply f before r after → ReportReply g before r after
report_carries s (short p) = short p
report_carries s (refused k e p) = refused k (outcome_carries s e) p
report_carries s (written k e n p) = written k (outcome_carries s e) n p

-- so files that differ only in labels get equal replies, and leave equal bytes.
pub report_label_blind : (f g before : List ℕ) (r s : Result ℕ RefusedReport) (after after' : List ℕ) → SameButLabels f g → ReportReply f before r after → ReportReply g before s after'
    → (r ≡ s) × (after ≡ after')
report_label_blind f g before r s after after' same p q = report_determined g before r s after after' (report_carries same p) q

-- 14 is given just for a buffer without room,
pub short_given : (before : List ℕ) → length before < report_bytes → Given (room_rows before) (record { reason = RoomShort; place = 0 })
short_given before l = given_here (record { reason = RoomShort; place = 0 }) refl (lowest_whole (λ h. omega arith))

-- and comes first: such a buffer has no other reply, whatever the file is.
pub report_short : (f before : List ℕ) (r : Result ℕ RefusedReport) (after : List ℕ) → length before < report_bytes → ReportReply f before r after
    → (r ≡ Err (record { refusal = record { reason = RoomShort; place = 0 }; length = 0 })) × (after ≡ before)
report_short f before r after l p = report_determined f before r (Err (record { refusal = record { reason = RoomShort; place = 0 }; length = 0 })) after before p (short (short_given before l))

-- Every report fits its room, a refusal's line too.
pub report_fits_room : (f before : List ℕ) (r : Result ℕ RefusedReport) (after : List ℕ) → ReportReply f before r after → length_of r ≤ report_bytes
report_fits_room f before r after (short p) = omega arith
report_fits_room f before r after (refused {r = x} k (unread (declined h)) p) =
    let g = given_small f x h in
    omega (arith, p.place, refused_fits (number_of x.reason) x.place (omega (arith, g.0)) (omega (arith, g.1)))
report_fits_room f before r after (refused k (stopped q g) p) = absurd g.first
report_fits_room f before r after (written k e n p) = omega (arith, p.place, numbers_fit (reported_good e) n)

-- So what is written stands within the buffer, which is as long as before.
pub report_within : {f before after : List ℕ} {r : Result ℕ RefusedReport} → ReportReply f before r after → length_of r ≤ length after
report_within (short p) = omega arith
report_within {f} {before} {after} {r} (refused k e q) = omega (arith, put_length q, k.kept.0 0 refl, report_fits_room f before r after (refused k e q))
report_within {f} {before} {after} {r} (written k e n q) = omega (arith, put_length q, k.kept.0 0 refl, report_fits_room f before r after (written k e n q))

-- Each wait in a report meets the three sentences of the wait from the start.
pub numbers_demand : {g : Graph} {v : Measures} {ring : List ℕ} {wait : ℕ → ℕ} → Good g.operations g.edges g.times g.from g.to g.mark g.buffers
    → Numbers (shown g) v ring wait → (t : ℕ) → t < (net_of (shown g)).transitions → Demand3 (net_of (shown g)) (start_of (shown g)) t (wait t)
numbers_demand ok n t l = wait_demand (wired_proper ok.wired) ok.live (n.waits t l)
