-- Files that differ only in label bytes keep and break every row of look at the same places.
use Prim.Native.Nat.{ℕ, ◌+◌, ◌*◌, ◌-◌, ◌≤◌, ◌<◌}
use mathlib.Core.Path.{◌≡◌, refl, sym, ◌∙◌, ap}
use mathlib.Core.Logic.{inl, inr, ⊎_elim}
use mathlib.Core.List.{List}
use native.Mathlib.Omega.{arith}
use lib.ListN.{length}
use Rattle.refusal.proofs.Same.{SameRows, asked_same}
use Rattle.little.specs.Little.{byte_at, word, quad}
use Rattle.net.specs.Plan.{Agree}
use Rattle.net.specs.Rules.{Edge, Operation}
use Rattle.net.proofs.Agree.{agree_rows}
use Rattle.file_trailer.specs.Limits.{edge_bytes, operation_bytes}
use Rattle.file_trailer.specs.File.{trailer_at, operations_at, operations_of, edges_at, edges_of, back_of, operation_time, edge_byte, plan_of}
use Rattle.file.specs.Frame.{CountsKept, EndsWithMagic, Laid, Signed, Sized, look_rows}
use Rattle.file.specs.Labels.{Label, SameButLabels}

word_same : (f g : List ℕ) (p : ℕ) → byte_at f p ≡ byte_at g p → byte_at f (p + 1) ≡ byte_at g (p + 1) → word f p ≡ word g p
unfolding word
word_same f g p a b = omega (arith, a, b)

quad_same : (f g : List ℕ) (p : ℕ) → ((q : ℕ) → p ≤ q → q < p + 4 → byte_at f q ≡ byte_at g q) → quad f p ≡ quad g p
unfolding quad
quad_same f g p e =
    let a : word f p ≡ word g p = word_same f g p (e _ (omega arith) (omega arith)) (e _ (omega arith) (omega arith)) in
    let b : word f (p + 2) ≡ word g (p + 2) = word_same f g (p + 2) (e _ (omega arith) (omega arith)) (e _ (omega arith) (omega arith)) in
    omega arith

module _ (f g : List ℕ) (s : SameButLabels f g) where
  -- The trailer has no label, so its numbers are the same.
  trailer_byte : (p : ℕ) → trailer_at f ≤ p → byte_at f p ≡ byte_at g p
  trailer_byte p l = s.same p (λ b. omega (arith, b.before))

  trailer_same : trailer_at f ≡ trailer_at g
  unfolding trailer_at
  trailer_same = ap (λ (n : ℕ). n - 16) s.long

  trailer_word : (k : ℕ) → word f (trailer_at f + k) ≡ word g (trailer_at g + k)
  trailer_word k = word_same f g (trailer_at f + k) (trailer_byte _ (omega arith)) (trailer_byte _ (omega arith)) ∙ ap (λ (t : ℕ). word g (t + k)) trailer_same

  trailer_at_lem : (k : ℕ) → byte_at g (trailer_at g + k) ≡ byte_at f (trailer_at f + k)
  trailer_at_lem k = ap (λ (t : ℕ). byte_at g (t + k)) (sym trailer_same) ∙ sym (trailer_byte (trailer_at f + k) (omega arith))

  ops_at : operations_at f ≡ operations_at g
  unfolding operations_at
  ops_at = word_same f g (trailer_at f) (trailer_byte _ (omega arith)) (trailer_byte _ (omega arith)) ∙ ap (word g) trailer_same

  ops : operations_of f ≡ operations_of g
  unfolding operations_of
  ops = trailer_word 2

  edges_at_lem : edges_at f ≡ edges_at g
  unfolding edges_at
  edges_at_lem = trailer_word 4

  edges : edges_of f ≡ edges_of g
  unfolding edges_of
  edges = trailer_word 6

  back : back_of f ≡ back_of g
  unfolding back_of
  back = trailer_word 8

  -- So are the rows of the frame,
  sized : Sized f → Sized g
  sized h = let l = s.long in record { low_met = omega (arith, h); high_met = omega (arith, h) }

  ends : EndsWithMagic f → EndsWithMagic g
  unfolding trailer_at
  ends h i l =
      let e : byte_at f (length f - 4 + i) ≡ byte_at g (length f - 4 + i) = trailer_byte _ (omega arith) in
      ap (λ (n : ℕ). byte_at g (n - 4 + i)) (sym s.long) ∙ sym e ∙ h i l

  signed : Signed f → Signed g
  signed h = record { layout = trailer_at_lem 10 ∙ h.layout; zero_byte = trailer_at_lem 11 ∙ h.zero_byte; ends = ends h.ends }

  counted : CountsKept f → CountsKept g
  counted h = rw (← ops, ← edges) h

  laid : Laid f → Laid g
  laid h =
      let n = ops in
      let m = edges in
      let t = trailer_same in
      let b = back in
      let p = ops_at in
      let q = edges_at_lem in
      record {
        back = omega (arith, h.back);
        filled = omega (arith, h.filled);
        order = ⊎_elim (λ o. inl (omega (arith, o), omega (arith, o))) (λ o. inr (omega (arith, o), omega (arith, o))) h.order;
      }

  label : (p : ℕ) → Label f p → Label g p
  label p b =
      let t = trailer_same in
      let n = ops in
      let o = ops_at in
      record {
        before = omega (arith, b.before);
        operation = b.operation;
        inside = record { low_met = b.inside.low_met; high_met = omega (arith, b.inside) };
        low = omega (arith, b.low);
        high = omega (arith, b.high);
      }

  -- and so is the graph, where the tables are laid.
  time_byte : (i p : ℕ) → operations_at f + operation_bytes * (i - 1) ≤ p → p < operations_at f + operation_bytes * (i - 1) + 4 → byte_at f p ≡ byte_at g p
  time_byte i p l m = s.same p (λ b. omega (arith, b.low, b.high, b.inside))

  time_same : (i : ℕ) → Operation (plan_of f) i → operation_time f i ≡ operation_time g i
  unfolding operation_time
  time_same i w = quad_same f g _ (time_byte i) ∙ ap (λ (t : ℕ). quad g (t + operation_bytes * (i - 1))) ops_at

  module _ (h : Laid f) where
    edge_byte_lem : (e : ℕ) → Edge (plan_of f) e → (k : ℕ) → k < 4 → byte_at f (edges_at f + edge_bytes * e + k) ≡ byte_at g (edges_at f + edge_bytes * e + k)
    edge_byte_lem e d k l =
        s.same _ (λ b. ⊎_elim (λ o. omega (arith, b.low, b.high, b.inside, o)) (λ o. omega (arith, b.low, b.high, b.inside, o)) h.order)

    edge_same : (e : ℕ) → Edge (plan_of f) e → (k : ℕ) → k < 4 → edge_byte f e k ≡ edge_byte g e k
    unfolding edge_byte
    edge_same e d k l = edge_byte_lem e d k l ∙ ap (λ (t : ℕ). byte_at g (t + edge_bytes * e + k)) edges_at_lem

    pub plans_agree : Agree (plan_of f) (plan_of g)
    plans_agree =
        record {
          operations = ops;
          edges = edges;
          time = time_same;
          from = λ e d. edge_same e d 0 (omega arith);
          to = λ e d. edge_same e d 1 (omega arith);
          mark = λ e d. edge_same e d 2 (omega arith);
          buffers = λ e d. edge_same e d 3 (omega arith);
        }

-- A file differs from itself in no byte.
pub labels_refl : (f : List ℕ) → SameButLabels f f
labels_refl f = record { long = refl; same = λ p n. refl }

-- It goes both ways.
pub labels_sym : (f g : List ℕ) → SameButLabels f g → SameButLabels g f
labels_sym f g s = record { long = sym s.long; same = λ p n. sym (s.same p (λ b. n (label f g s p b))) }

-- Every row of look is the same: rows 1 to 4 read the length and the trailer alone, and the graph is read where they are kept.
pub labels_rows : (f g : List ℕ) → SameButLabels f g → SameRows (look_rows f) (look_rows g)
labels_rows f g s =
    let t = labels_sym f g s in (
      asked_same (sized f g s) (sized g f t),
      λ k1. (
        asked_same (signed f g s) (signed g f t),
        λ k2. (
          asked_same (counted f g s) (counted g f t),
          λ k3.
              (asked_same (laid f g s) (laid g f t), λ k4. agree_rows (plan_of f) (plan_of g) (plans_agree f g s (k4 0 refl))),
        ),
      ),
    )
