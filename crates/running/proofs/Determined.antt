-- What a run leaves no room for: count, end and bytes are determined.
use mathlib.Core.Path.{◌≡◌, ap, refl, subst, sym}
use mathlib.Core.List.{List}
use Prim.Native.Nat.{suc, ℕ}
use native.Mathlib.Omega.{arith}
use Rattle.marked.specs.Net.{Net}
use Rattle.firing.proofs.Steps.{steps_determined}
use Rattle.running.specs.Run.{Runs}
use Rattle.running.specs.Run.Runs.{ends, goes, stops}
use Rattle.std.specs.Prelude.{Err}
use Rattle.refusal.specs.Asking.{Verdict}

pub runs_determined : {g : Net} {m list y z : List ℕ} {j k : ℕ} {a b : Verdict} → Runs g m list j a y → Runs g m list k b z → (j ≡ k) × (a ≡ b) × (y ≡ z)
runs_determined ends ends = (refl, refl, refl)
runs_determined {g} {z} {b} (goes {ts} s r) (goes {k = i} u v) =
    let d = steps_determined s u in
    let w = runs_determined r (subst (λ (x : List ℕ). Runs g x ts i b z) (sym d.1) v) in
    (ap suc w.0, w.1, w.2)
runs_determined (goes s r) (stops u) = let e = (steps_determined s u).0 in let w : ◌≡◌ {A = ℕ} 0 1 = cc in absurd (omega arith)
runs_determined (stops s) (goes u v) = let e = (steps_determined s u).0 in let w : ◌≡◌ {A = ℕ} 0 1 = cc in absurd (omega arith)
runs_determined (stops {r = r} s) (stops {r = q} u) = let d = steps_determined s u in let e : r ≡ q = cc d.0 in (refl, ap (λ x. Err x) e, d.1)
