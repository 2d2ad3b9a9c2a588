-- A run's count and bytes are those of its firings, entry by entry.
use mathlib.Core.Path.{◌≡◌, ap, refl, subst, sym}
use mathlib.Core.List.{List}
use Prim.Native.Nat.{◌<◌, suc, ℕ}
use native.Mathlib.Omega.{arith}
use lib.ListN.{length, take}
use Rattle.refusal.specs.declared.Refusal.{Refusal}
use Rattle.marked.specs.Net.{Net, at}
use Rattle.marked.specs.Firing.{Fires}
use Rattle.marked.specs.Firing.Fires.{still, then}
use Rattle.firing.specs.Step.{Steps}
use Rattle.firing.proofs.Steps.{steps_firing, steps_kept}
use Rattle.running.specs.Run.{Runs}
use Rattle.running.specs.Run.Runs.{ends, goes, stops}
use Rattle.std.specs.Prelude.{Err, Ok}
use Rattle.refusal.specs.Asking.{Verdict}

-- As many entries as the run says have fired, in the list's order, and led to its bytes.
pub runs_fires : {g : Net} {m list z : List ℕ} {k : ℕ} {x : Verdict} → Runs g m list k x z → Fires g (at m) (take k list) (at z)
runs_fires ends = still (λ p h. refl)
runs_fires (goes s r) = then (steps_firing s refl).fire (runs_fires r)
runs_fires (stops s) = still (λ p h. ap (λ (x : List ℕ). at x p) (sym (steps_kept s refl)))

-- A run that no entry stopped has fired them all.
pub runs_whole : {g : Net} {m list z : List ℕ} {k : ℕ} {x : Verdict} → Runs g m list k x z → x ≡ Ok tt → k ≡ length list
runs_whole ends e = refl
runs_whole (goes s r) e = ap suc (runs_whole r e)
runs_whole (stops s) e = let w : ◌≡◌ {A = ℕ} 0 1 = cc in absurd (omega arith)

-- A run that was refused was refused at the entry after those that fired, at the bytes that they left.
pub runs_refused : {g : Net} {m list z : List ℕ} {k : ℕ} {x : Verdict} {r : Refusal}
    → Runs g m list k x z → x ≡ Err r → (k < length list) × Steps g z (at list k) (Err r) z
runs_refused ends e = let w : ◌≡◌ {A = ℕ} 0 1 = cc in absurd (omega arith)
runs_refused (goes s r) e = let w = runs_refused r e in (omega (arith, w.0), w.1)
runs_refused {g} {z} {r} (stops {m} {t} {r = q} s) e =
    let same : q ≡ r = cc in
    (omega arith, subst (λ (y : List ℕ). Steps g y t (Err r) z) (sym (steps_kept s refl)) (subst (λ (p : Refusal). Steps g m t (Err p) z) same s))
