-- The loop that goes round once.
use mathlib.Core.Path.{◌≡◌, ap, sym, ◌∙◌, subst}
use mathlib.Core.Logic.{◌≢◌}
use Prim.Native.Nat.{◌+◌, ◌-◌, ◌<◌, ◌≤◌, ℕ}
use native.Mathlib.Omega.{arith}
use native.Mathlib.Decide.{ℕ_discrete}
use Rattle.marked.specs.Net.{Net, Proper}
use Rattle.tbo_round.specs.helpers.Chains.{Round, Turns, Way, back}
use Rattle.tbo_round.proofs.Ways.{back_none, back_step, behind_noted, not_yet, still_noted, turns_in, way_none, way_on}

-- k steps back from w lead to x, none of them to w.
pub record Going (g : Net) (m time P : ℕ → ℕ) (w x t n k : ℕ) : Type 0 where
  pub stands : x ≡ back g P k w
  pub new : (i : ℕ) → 1 ≤ i → i ≤ k → back g P i w ≡ w → ⊥
  pub way : Way g m time P k x w t n

pub going_none : {g : Net} {m time P : ℕ → ℕ} {w : ℕ} → Going g m time P w w 0 0 0
going_none {g} {m} {P} {w} = record { stands = back_none g P w; new = λ i a b e. omega arith; way = way_none w }

module _ {g : Net} {m time P : ℕ → ℕ} {w x t n k : ℕ} (r : Turns g P w) (o : Going g m time P w x t n k) where
  pub going_noted : P x ≡ 0 → ⊥
  going_noted e = still_noted r k o.new (sym (ap P o.stands) ∙ e)

  pub going_few : k < g.transitions
  going_few = not_yet r k o.new

  pub going_in : Proper g → x < g.transitions
  going_in ok = omega (arith, o.stands, turns_in r ok k)

  pub going_place : {q : ℕ} → q ≡ P x → P x ≡ q - 1 + 1
  going_place {q} eq = elim (ℕ_discrete q 0) [
    | yes z ↦ absurd (going_noted (sym eq ∙ z))
    | no z ↦ omega arith
  ]

  pub going_pos : {q : ℕ} → q ≡ P x → 1 ≤ q
  going_pos {q} eq = elim (ℕ_discrete q 0) [
    | yes z ↦ absurd (going_noted (sym eq ∙ z))
    | no z ↦ omega arith
  ]

  pub going_inside : {q : ℕ} → q ≡ P x → q - 1 < g.places
  going_inside {q} eq = r.notes.inside x (q - 1) (going_place eq)

  module _ {q y u v : ℕ} (eq : q ≡ P x) (ey : y ≡ g.src (q - 1)) (eu : u ≡ time y) (ev : v ≡ m (q - 1)) where
    next : Way g m time P (k + 1) y w (t + u) (n + v)
    next = rw (eu, ev, ey) (way_on (q - 1) r.notes (going_place eq) o.way)

    stands_next : y ≡ back g P (k + 1) w
    stands_next = back_step g P k w x y o.stands (ey ∙ behind_noted g x (P x) (q - 1) (going_place eq))

    pub going_on : y ≢ w → Going g m time P w y (t + u) (n + v) (k + 1)
    going_on f = record {
      stands = stands_next;
      new = λ i a b e. elim (ℕ_discrete i (k + 1)) [
        | yes z ↦ f (stands_next ∙ sym (ap (λ (j : ℕ). back g P j w) z) ∙ e)
        | no z ↦ o.new i a (omega arith) e
      ];
      way = next;
    }

    pub going_round : y ≡ w → Round g m time P w (t + u) (n + v)
    going_round e = record { count = k + 1; some = omega arith; few = omega (arith, going_few); way = subst (λ (z : ℕ). Way g m time P (k + 1) z w (t + u) (n + v)) e next }
