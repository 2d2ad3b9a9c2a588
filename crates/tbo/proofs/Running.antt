-- Sweeps until none raises, or until a chain comes round.
use Rattle.std.specs.Prelude.{Option, None, Some}
use mathlib.Core.Path.{◌≡◌, ap, sym, ◌∙◌, subst}
use mathlib.Core.Logic.{◌≢◌, ⊎_elim}
use Prim.Native.Nat.{◌*◌, ◌+◌, ◌<◌, ◌≤◌, suc, ℕ}
use native.Mathlib.Omega.{arith}
use Rattle.marked.specs.Net.{Net, Proper}
use Rattle.marked.specs.Bounds.{Certifies}
use Rattle.marked.proofs.Find.{above}
use Rattle.tbo_sweep.specs.helpers.Places.{Every}
use Rattle.tbo_sweep.specs.helpers.Raises.{SweptOver}
use Rattle.tbo_sweep.proofs.Lifting.{lifts_up}
use Rattle.tbo_round.specs.helpers.Chains.{Round, Tour, Turns, back}
use Rattle.tbo_round.proofs.Chains.{Sweeps, back_in, comes_round, no_end, notes_of, sweeps_snoc}
use Rattle.tbo_round.proofs.Chains.Sweeps.{begun}
use Rattle.tbo_round.proofs.Ways.{round_tour}
use Rattle.tbo_round.proofs.Steadies.{Steady, steady_start, steady_through}

-- k sweeps from C have led to D and P.
pub record Running (g : Net) (m time : ℕ → ℕ) (a b : ℕ) (C D P : ℕ → ℕ) (k : ℕ) : Type 0 where
  pub sweeps : Sweeps g m time a b k C D
  pub steady : Steady g m time a b C D P
  pub few : k ≤ g.transitions

pub running_start : {g : Net} {m time : ℕ → ℕ} {a b : ℕ} {C P : ℕ → ℕ} → ((v : ℕ) → P v ≡ 0) → Running g m time a b C C P 0
running_start z = record { sweeps = begun; steady = steady_start z; few = omega arith }

module _
    {g : Net} {m time : ℕ → ℕ} {a b : ℕ} {C D P E Q : ℕ → ℕ} {k most : ℕ} {y : Option ℕ} (r : Running g m time a b C D P k)
    (s : SweptOver g m time a b (Every g.places) most D P E Q y) where
  -- no rise: a certificate
  pub certify : y ≡ None → Certifies g m time a b E
  certify e = λ p h. omega (arith, s.passed p h, s.quiet e (g.src p))

  pub steady_next : Steady g m time a b C E Q
  steady_next = steady_through s.lifts r.steady

  -- a rise
  pub rose : {v : ℕ} → y ≡ Some v → (v < g.transitions) × (D v < E v)
  rose {v} f = s.loud v f

  module _ (ok : Proper g) {v : ℕ} (f : y ≡ Some v) {w : ℕ} (ew : w ≡ back g Q g.transitions v) where
    pub lands : w < g.transitions
    lands = omega (arith, back_in (notes_of steady_next) ok g.transitions v (rose f).0)

    pub turns : Q w ≢ 0 → Turns g Q w
    turns n =
        let c = comes_round (notes_of steady_next) ok v (rose f).0 in
        record {
          notes = notes_of steady_next;
          within = lands;
          noted = n;
          steps = c.0;
          some = c.1;
          few = c.2;
          round = subst (λ (z : ℕ). back g Q c.0 z ≡ z) (sym ew) c.3;
        }

    later : Q w ≡ 0 → k < g.transitions
    later e = ⊎_elim (λ h. h) (λ h. absurd (no_end v r.sweeps steady_next h (rose f).1 (sym (ap Q ew) ∙ e))) (above k g.transitions)

    pub running_on : Q w ≡ 0 → Running g m time a b C E Q (k + 1)
    running_on e = record {
      sweeps = let z : suc k ≡ k + 1 = omega arith in subst (λ (j : ℕ). Sweeps g m time a b j C E) z (sweeps_snoc r.sweeps (lifts_up s.lifts) (λ p h. s.passed p h));
      steady = steady_next;
      few = omega (arith, later e);
    }

  pub better : {w t n : ℕ} → Round g m time Q w t n → Tour g m time t n × (a * n < b * t)
  better {w} o =
      let p = o.way in
      let some : 1 ≤ o.count = o.some in
      let h = steady_next.round w p.places p.walk (omega (arith, p.long)) p.noted in
      (round_tour o, rw (p.lasts, p.holds) at h)
