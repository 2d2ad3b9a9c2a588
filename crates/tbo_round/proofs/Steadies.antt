-- What stays true of potentials and notes however often a place raises a transition.
use mathlib.Core.Path.{◌≡◌, refl}
use mathlib.Core.Logic.{◌⊎◌, inl, inr}
use mathlib.Core.List.{List, [], ◌∷◌}
use Prim.Native.Nat.{◌*◌, ◌+◌, ◌<◌, ◌≤◌, ℕ}
use native.Mathlib.Omega.{arith}
use native.Mathlib.Decide.{ℕ_discrete}
use lib.ListN.{length}
use Rattle.marked.specs.Lists.{All}
use Rattle.marked.specs.Sums.{sum}
use Rattle.marked.specs.Net.{Net, Walk, go, lasts, stop, tokens}
use Rattle.tbo_sweep.specs.helpers.Raises.{Lift, Lifts, Noted}
use Rattle.tbo_sweep.specs.helpers.Raises.Lifts.{more, none}
use Rattle.tbo_sweep.proofs.Lifting.{lift_up}

-- What holds of potentials D and notes P that were raised from C and from no notes: notes name places, noted places are tight or better, and closed walks of noted places have more time per
-- token than a / b.
pub record Steady (g : Net) (m time : ℕ → ℕ) (a b : ℕ) (C D P : ℕ → ℕ) : Type 0 where
  pub rises : (v : ℕ) → C v ≤ D v
  pub inside : (v p : ℕ) → P v ≡ p + 1 → p < g.places
  pub ends : (v p : ℕ) → P v ≡ p + 1 → g.dst p ≡ v
  pub slack : (v p : ℕ) → P v ≡ p + 1 → D v + a * m p ≤ D (g.src p) + b * time (g.src p)
  pub root : (v : ℕ) → P v ≡ 0 → D v ≡ C v
  pub round : (u : ℕ) (ps : List ℕ) → Walk g u u ps → 1 ≤ length ps → All (Noted g P) ps → a * tokens m ps < b * lasts g time ps

module _ {g : Net} {m time : ℕ → ℕ} {a b : ℕ} where
  -- the potentials where nothing has been noted
  pub steady_start : {C P : ℕ → ℕ} → ((v : ℕ) → P v ≡ 0) → Steady g m time a b C C P
  steady_start {C} {P} z = record {
    rises = λ v. omega arith;
    inside = λ v p e. absurd (omega (arith, z v));
    ends = λ v p e. absurd (omega (arith, z v));
    slack = λ v p e. absurd (omega (arith, z v));
    root = λ v e. refl;
    round = λ u ps w l n. never u ps w l n;
  }
    where
      never : (u : ℕ) (ps : List ℕ) → Walk g u u ps → 1 ≤ length ps → All (Noted g P) ps → a * tokens m ps < b * lasts g time ps
      never u [] w l n = absurd (omega arith)
      never u (p ∷ ps) w l n = let e : P (g.dst p) ≡ p + 1 = n.0 in absurd (omega (arith, z (g.dst p)))

  module _ {D P E Q : ℕ → ℕ} {p : ℕ} (l : Lift g m time a b p D P E Q) where
    module _ {C : ℕ → ℕ} (s : Steady g m time a b C D P) where
      -- a noted place is the new one, or was noted before
      which : (q : ℕ) → Noted g Q q → (q ≡ p) ⊎ Noted g P q
      which q n = at (ℕ_discrete (g.dst q) (g.dst p))
        where
          at : Dec (g.dst q ≡ g.dst p) → (q ≡ p) ⊎ Noted g P q
          at (yes e) = let h : Q (g.dst p) ≡ q + 1 = rw e at n in inl (omega (arith, l.note))
          at (no f) = inr (omega (arith, l.kept (g.dst q) f))

      -- Along noted places the potentials before the lift fall no more than the walk's worth; by less where it has the new place.
      along : {u v : ℕ} {ps : List ℕ} → Walk g u v ps → All (Noted g Q) ps →
          ((D v + a * tokens m ps ≤ D u + b * lasts g time ps) × All (Noted g P) ps) ⊎ (D v + a * tokens m ps < D u + b * lasts g time ps)
      unfolding sum
      along stop n = inl (omega arith, tt)
      along (go {b = v} {ps = ps} q h w) n = at (which q n.0) (along w n.1)
        where
          at : (q ≡ p) ⊎ Noted g P q → ((D v + a * tokens m ps ≤ D (g.dst q) + b * lasts g time ps) × All (Noted g P) ps) ⊎ (D v + a * tokens m ps < D (g.dst q) + b * lasts g time ps)
              → ((D v + a * tokens m (q ∷ ps) ≤ D (g.src q) + b * lasts g time (q ∷ ps)) × All (Noted g P) (q ∷ ps)) ⊎ (D v + a * tokens m (q ∷ ps) < D (g.src q) + b * lasts g time (q ∷ ps))
          at (inl e) (inl r) = let z : D (g.dst q) + a * m q < D (g.src q) + b * time (g.src q) = rw e l.rise in inr (omega (arith, r.0))
          at (inl e) (inr r) = let z : D (g.dst q) + a * m q < D (g.src q) + b * time (g.src q) = rw e l.rise in inr (omega arith)
          at (inr o) (inl r) = inl (omega (arith, r.0, s.slack (g.dst q) q o), (o, r.1))
          at (inr o) (inr r) = inr (omega (arith, s.slack (g.dst q) q o))

      round_on : (u : ℕ) (ps : List ℕ) → Walk g u u ps → 1 ≤ length ps → All (Noted g Q) ps → a * tokens m ps < b * lasts g time ps
      round_on u ps w k n = at (along w n)
        where
          at : ((D u + a * tokens m ps ≤ D u + b * lasts g time ps) × All (Noted g P) ps) ⊎ (D u + a * tokens m ps < D u + b * lasts g time ps) → a * tokens m ps < b * lasts g time ps
          at (inl r) = s.round u ps w k r.1
          at (inr r) = omega arith

      noted_on : (v q : ℕ) → Q v ≡ q + 1 → (q < g.places) × (g.dst q ≡ v) × (E v + a * m q ≤ E (g.src q) + b * time (g.src q))
      noted_on v q e = at (ℕ_discrete v (g.dst p))
        where
          at : Dec (v ≡ g.dst p) → (q < g.places) × (g.dst q ≡ v) × (E v + a * m q ≤ E (g.src q) + b * time (g.src q))
          at (yes f) =
              let h : Q (g.dst p) ≡ q + 1 = rw f at e in
              let z : q ≡ p = omega (arith, l.note) in
              rw (f, z) (l.inside, refl, omega (arith, l.new, lift_up l (g.src p)))
          at (no f) =
              let h : P v ≡ q + 1 = omega (arith, l.kept v f) in
              (s.inside v q h, s.ends v q h, omega (arith, l.same v f, s.slack v q h, lift_up l (g.src q)))

      root_on : (v : ℕ) → Q v ≡ 0 → E v ≡ C v
      root_on v e = at (ℕ_discrete v (g.dst p))
        where
          at : Dec (v ≡ g.dst p) → E v ≡ C v
          at (yes f) = let h : Q (g.dst p) ≡ 0 = rw f at e in absurd (omega (arith, l.note))
          at (no f) = omega (arith, l.same v f, s.root v (omega (arith, l.kept v f)))

      -- What is steady stays so.
      pub steady_on : Steady g m time a b C E Q
      steady_on = record {
        rises = λ v. omega (arith, s.rises v, lift_up l v);
        inside = λ v q e. (noted_on v q e).0;
        ends = λ v q e. (noted_on v q e).1;
        slack = λ v q e. (noted_on v q e).2;
        root = root_on;
        round = round_on;
      }

  pub steady_through : {C D P E Q : ℕ → ℕ} {k : ℕ} → Lifts g m time a b D P k E Q → Steady g m time a b C D P → Steady g m time a b C E Q
  steady_through none s = s
  steady_through (more p x l) s = steady_on l (steady_through x s)
