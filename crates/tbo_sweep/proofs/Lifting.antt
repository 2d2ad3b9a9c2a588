-- Lifts follow each other, and take the potentials up, but not far.
use mathlib.Core.Path.{◌≡◌}
use Prim.Native.Nat.{◌*◌, ◌+◌, ◌<◌, ◌≤◌, suc, ℕ}
use native.Mathlib.Omega.{arith}
use native.Mathlib.Decide.{ℕ_discrete}
use native.Mathlib.Numerals.{unary_clauses}
use Rattle.marked.specs.Net.{Net}
use Rattle.tbo_sweep.specs.helpers.Raises.{Lift, Lifts}
use Rattle.tbo_sweep.specs.helpers.Raises.Lifts.{more, none}

module _ {g : Net} {m time : ℕ → ℕ} {a b : ℕ} where
  pub lift_up : {D P E Q : ℕ → ℕ} {p : ℕ} → Lift g m time a b p D P E Q → (v : ℕ) → D v ≤ E v
  lift_up {D} {E = E} {p = p} l v = at (ℕ_discrete v (g.dst p))
    where
      at : Dec (v ≡ g.dst p) → D v ≤ E v
      at (yes e) = rw e (omega (arith, l.rise, l.new))
      at (no f) = omega (arith, l.same v f)

  pub lifts_up : {D P E Q : ℕ → ℕ} {k : ℕ} → Lifts g m time a b D P k E Q → (v : ℕ) → D v ≤ E v
  lifts_up none v = omega arith
  lifts_up (more p x l) v = omega (arith, lifts_up x v, lift_up l v)

  -- How far k lifts can take the potentials.
  pub lifts_bound :
      {D P E Q : ℕ → ℕ} {k : ℕ} (top step : ℕ) → ((p : ℕ) → p < g.places → b * time (g.src p) ≤ step) → ((v : ℕ) → D v ≤ top) → Lifts g m time a b D P k E Q → (v : ℕ)
      → E v ≤ top + k * step
  lifts_bound top step h t none v = omega (arith, t v)
  lifts_bound {E = E} top step h t (more {k = k} {E = F} p x l) v = at (ℕ_discrete v (g.dst p)) (lifts_bound top step h t x)
    where
      at : Dec (v ≡ g.dst p) → ((u : ℕ) → F u ≤ top + k * step) → E v ≤ top + suc k * step
      at (yes f) r = rw f (omega (arith, l.new, r (g.src p), h p l.inside))
      at (no f) r = omega (arith, l.same v f, r v)

  pub lifts_trans : {D P E Q F R : ℕ → ℕ} {j k : ℕ} → Lifts g m time a b D P j E Q → Lifts g m time a b E Q k F R → Lifts g m time a b D P (j + k) F R
  lifts_trans x none = simp unary_clauses x
  lifts_trans x (more p y l) = simp unary_clauses (more p (lifts_trans x y) l)
