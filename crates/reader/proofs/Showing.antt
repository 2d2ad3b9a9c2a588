-- What it means that a graph shows a plan: two that show one are equal, plans that agree are shown by one, and what is shown agrees.
use Prim.Native.Nat.{ℕ, ◌+◌, ◌-◌, ◌≤◌, ◌<◌}
use mathlib.Core.Path.{◌≡◌, sym, ◌∙◌, subst, ap}
use mathlib.Core.List.{List}
use native.Mathlib.Omega.{arith}
use native.Mathlib.Decide.{dec_lt}
use lib.ListN.{get_or}
use lib.Seq.{ext_get_or}
use Rattle.marked.specs.Net.{at}
use Rattle.net.specs.Limits.{Within}
use Rattle.net.specs.Plan.{Agree, Plan}
use Rattle.reader_tables.specs.Filled.{Filled}
use Rattle.reader.specs.Reply.{Shows, shown}
use Rattle.reader.specs.declared.graph.Graph.{Graph}

same_row : {n room : ℕ} {h : ℕ → ℕ} {xs ys : List ℕ} → Filled n room h xs → Filled n room h ys → xs ≡ ys
same_row {n} {h} {xs} {ys} s t = ext_get_or 0 xs ys (s.long ∙ sym t.long) (λ i l. go i (dec_lt i n))
  where
    go : (i : ℕ) → Dec (i < n) → get_or xs i 0 ≡ get_or ys i 0
    go i (yes l) = s.used i l ∙ sym (t.used i l)
    go i (no l) = s.unused i (omega arith) ∙ sym (t.unused i (omega arith))

pub same_graph : {p : Plan} {n e : ℕ} {g h : Graph} → Shows p n e g → Shows p n e h → g ≡ h
same_graph {g} {h} s t = λ i. record { operations = p₀ i; edges = p₁ i; times = p₂ i; from = p₃ i; to = p₄ i; mark = p₅ i; buffers = p₆ i }
  where
    p₀ : g.operations ≡ h.operations
    p₀ = s.operations ∙ sym t.operations

    p₁ : g.edges ≡ h.edges
    p₁ = s.edges ∙ sym t.edges

    p₂ : g.times ≡ h.times
    p₂ = same_row s.times t.times

    p₃ : g.from ≡ h.from
    p₃ = same_row s.from t.from

    p₄ : g.to ≡ h.to
    p₄ = same_row s.to t.to

    p₅ : g.mark ≡ h.mark
    p₅ = same_row s.mark t.mark

    p₆ : g.buffers ≡ h.buffers
    p₆ = same_row s.buffers t.buffers

filled_same : {n room : ℕ} {h k : ℕ → ℕ} {xs : List ℕ} → ((i : ℕ) → i < n → h i ≡ k i) → Filled n room h xs → Filled n room k xs
filled_same e t = record { long = t.long; used = λ i l. t.used i l ∙ e i l; unused = t.unused }

-- A graph that shows a part of one plan shows that part of the other.
pub shows_same : {p q : Plan} {n e : ℕ} {r : Graph} → Agree p q → n ≤ p.operations → e ≤ p.edges → Shows p n e r → Shows q n e r
shows_same a m d s =
    record {
      operations = s.operations;
      edges = s.edges;
      times = filled_same (λ i l. a.time (i + 1) (record { low_met = omega arith; high_met = omega arith })) s.times;
      from = filled_same (λ i l. a.from i (omega arith)) s.from;
      to = filled_same (λ i l. a.to i (omega arith)) s.to;
      mark = filled_same (λ i l. a.mark i (omega arith)) s.mark;
      buffers = filled_same (λ i l. a.buffers i (omega arith)) s.buffers;
    }

pub shows_to : {p : Plan} {n m e d : ℕ} {r : Graph} → n ≡ m → e ≡ d → Shows p n e r → Shows p m d r
shows_to {p} {n} {d} {r} i j s = subst (λ (k : ℕ). Shows p k d r) i (subst (λ (k : ℕ). Shows p n k r) j s)

-- The plan that a graph shows agrees with the one it is read from.
pub shown_agrees : {p : Plan} {g : Graph} → Shows p p.operations p.edges g → Agree (shown g) p
shown_agrees {p} {g} s =
    record {
      operations = s.operations;
      edges = s.edges;
      time = time_shown;
      from = λ e l. s.from.used e (rw s.edges at l);
      to = λ e l. s.to.used e (rw s.edges at l);
      mark = λ e l. s.mark.used e (rw s.edges at l);
      buffers = λ e l. s.buffers.used e (rw s.edges at l);
    }
  where
    time_shown : (i : ℕ) → Within 1 g.operations i → at g.times (i - 1) ≡ p.time i
    time_shown i w =
        let n = s.operations in
        let e : i - 1 + 1 ≡ i = omega (arith, w) in
        s.times.used (i - 1) (omega (arith, w)) ∙ ap p.time e
