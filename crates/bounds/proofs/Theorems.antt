-- The reply of bounds is one, the circuit and every other entry of the buffer included; it is blind to labels; and its sums stand in order.
use mathlib.Core.Path.{◌≡◌, refl, subst, sym}
use mathlib.Core.List.{List}
use Prim.Native.Nat.{◌+◌, ◌≤◌, ℕ}
use Rattle.marked.specs.Circuits.{Live}
use Rattle.marked.proofs.Largest.{largest_unique}
use Rattle.net.specs.Plan.{Plan}
use Rattle.net.specs.Graph.{net_of, start_of, times_of}
use Rattle.net.specs.Good.{Good}
use Rattle.file.specs.Labels.{SameButLabels}
use Rattle.reader.specs.Reply.{LookReply, shown}
use Rattle.reader.specs.Outcome.{Ends, Outcome, accepted, passed, refused, unread}
use Rattle.reader.specs.declared.graph.Graph.{Graph}
use Rattle.reader.proofs.Accepting.{accepted_good}
use Rattle.reader.proofs.Determined.{look_determined}
use Rattle.reader.proofs.Outcomes.{outcome_carries, outcome_determined}
use Rattle.paths_finish.proofs.Passing.{good_passing}
use Rattle.paths_finish.proofs.Reached.{Reached}
use Rattle.paths.proofs.Order.{some_path, tbio_most, tbio_unique, tce_unique, tt_most, tt_unique}
use Rattle.circuit.specs.Chosen.{Handed}
use Rattle.circuit.proofs.Unique.{handed_unique}
use Rattle.bounds_graph.specs.Rows.{bounds_rows}
use Rattle.bounds.specs.Reply.{BoundsReplies, BoundsReply, bounded, refused}
use Rattle.bounds_graph.specs.Measured.{BoundsOf}
use Rattle.refusal.specs.declared.Refusal.{Refusal}
use Rattle.std.specs.Prelude.{Result, Ok}
use Rattle.bounds_graph.specs.declared.reply.Measures.{Measures}

-- The graph of an accepted file is good.
abbrev GoodGraph : Graph → Type 0
GoodGraph g = Good g.operations g.edges g.times g.from g.to g.mark g.buffers

ends_good : {f : List ℕ} {g : Graph} (before : List ℕ) → Ends f (bounds_rows before) (accepted g) → GoodGraph g
ends_good {f} before (passed q s) = accepted_good f q

-- One graph has one set of bounds.
pub one_bounds :
    (g : Plan) {r s : Measures} {before after after' : List ℕ} → Live (net_of g) (start_of g)
    → BoundsOf g before r after → BoundsOf g before s after' → (r ≡ s) × (after ≡ after')
one_bounds g {r} {s} {before} {after} live x y =
    let a = r.numerator in
    let b = r.denominator in
    let c = s.numerator in
    let k = s.denominator in
    let p = largest_unique (net_of g) (start_of g) (times_of g) live a b c k x.tbo_is.largest y.tbo_is.largest x.tbo_is.reduced y.tbo_is.reduced in
    let h : Handed (net_of g) (start_of g) (times_of g) c k before r.length after = rw (sym p.0, sym p.1) x.circuit in
    let u = handed_unique h y.circuit in
    let same : r ≡ s = λ i. record {
      numerator = p.0 i;
      denominator = p.1 i;
      tbio = tbio_unique x.tbio_is y.tbio_is i;
      tt = tt_unique x.tt_is y.tt_is i;
      tce = tce_unique g x.tce_is y.tce_is i;
      length = u.0 i;
    } in
    (same, u.1)

one_reply :
    {before after after' : List ℕ} {o : Outcome} {r s : Result Measures Refusal} → ((g : Graph) → o ≡ accepted g → GoodGraph g) → BoundsReplies before o r after → BoundsReplies before o s after'
    → (r ≡ s) × (after ≡ after')
one_reply a refused refused = (refl, refl)
one_reply a (bounded {g = g} x) (bounded y) = let u = one_bounds (shown g) (a g refl).live x y in (λ i. Ok (u.0 i), u.1)

-- Two replies that `BoundsReply` allows are equal, and so is every entry of the buffer after them, the circuit's and the others'.
pub bounds_determined : (f before : List ℕ) (r s : Result Measures Refusal) (after after' : List ℕ) → BoundsReply f before r after → BoundsReply f before s after' → (r ≡ s) × (after ≡ after')
bounds_determined f before r s after after' p q =
    let e : p.outcome ≡ q.outcome = outcome_determined f (bounds_rows before) p.ends q.ends in
    one_reply (λ g o. ends_good before (subst (Ends f (bounds_rows before)) o q.ends)) (subst (λ (o : Outcome). BoundsReplies before o r after) e p.replies) q.replies

-- A reply for a file is one for each file that differs only in labels,
pub bounds_carries : (f g before : List ℕ) (r : Result Measures Refusal) (after : List ℕ) → SameButLabels f g → BoundsReply f before r after → BoundsReply g before r after
bounds_carries f g before r after s p = record { outcome = p.outcome; ends = outcome_carries s p.ends; replies = p.replies }

-- so such files get equal replies, with equal buffers after them.
pub bounds_label_blind :
    (f g before : List ℕ) (r s : Result Measures Refusal) (after after' : List ℕ) → SameButLabels f g → BoundsReply f before r after → BoundsReply g before s after' → (r ≡ s) × (after ≡ after')
bounds_label_blind f g before r s after after' a p q = bounds_determined g before r s after after' (bounds_carries f g before r after a p) q

-- The bounds of a reply are those of look's graph.
pub bounds_of_look : (f before after : List ℕ) (r : Measures) (g : Graph) → LookReply f (Ok g) → BoundsReply f before (Ok r) after → BoundsOf (shown g) before r after
bounds_of_look f before after r g p q = of q.ends q.replies
  where
    of : {o : Outcome} → Ends f (bounds_rows before) o → BoundsReplies before o (Ok r) after → BoundsOf (shown g) before r after
    of (unread u) x = elim x [ ]
    of (refused u h) x = elim x [ ]
    of (passed {g = s} u h) (bounded x) = let e : s ≡ g = cc (look_determined f (Ok s) (Ok g) u p) in subst (λ (k : Graph). BoundsOf (shown k) before r after) e x

-- TBIO ≤ TT ≤ TCE.
pub bounds_ordered : (f before after : List ℕ) (r : Measures) → BoundsReply f before (Ok r) after → (r.tbio ≤ r.tt) × (r.tt ≤ r.tce)
bounds_ordered f before after r q = of q.ends q.replies
  where
    of : {o : Outcome} → Ends f (bounds_rows before) o → BoundsReplies before o (Ok r) after → (r.tbio ≤ r.tt) × (r.tt ≤ r.tce)
    of (unread u) x = elim x [ ]
    of (refused u h) x = elim x [ ]
    of (passed u h) (bounded x) = (tbio_most x.tbio_is x.tt_is, tt_most (good_passing (accepted_good f u)) x.tt_is x.tce_is)

-- A good graph has a path from the source to the data sink: TBIO and TT are never over nothing.
pub bounds_path : (g : Graph) → GoodGraph g → Reached (shown g) (g.operations + 1)
bounds_path g a = some_path (good_passing a)
