-- Sweeping edge by edge: the sum of the entries rises with each raise, and a sweep without one leaves every edge settled.
use mathlib.Core.Path.{◌≡◌, refl, subst, sym}
use mathlib.Core.Bool.{Bool, false, true}
use mathlib.Core.List.{List, [], ◌∷◌}
use Prim.Native.Nat.{◌+◌, ◌<◌, ◌≤◌, suc, zero, ℕ}
use native.Mathlib.Decide.{ℕ_discrete}
use native.Mathlib.Omega.{arith}
use lib.ListN.{length, set}
use Rattle.marked.specs.Sums.{sum, total}
use Rattle.marked.specs.Net.{at}
use Rattle.paths_finish.specs.helpers.Finishing.{Backed, Lifted, EdgesSwept, done_by, kept, lifted}
use Rattle.paths_finish.proofs.Offers.{inside, lifted_backed}

total_rises : (d : List ℕ) (v x : ℕ) → v < length d → at d v < x → total d < total (set d v x)
unfolding sum
total_rises [] v x h l = absurd (omega arith)
total_rises (y ∷ d) zero x h l = omega arith
total_rises (y ∷ d) (suc v) x h l = omega (arith, total_rises d v x (omega arith) l)

differ : {A : Type 0} → ◌≡◌ {A = Bool} true false → A
differ e = let z : ◌≡◌ {A = ℕ} 0 1 = cc in absurd (omega arith)

pub lifted_as : {d c : List ℕ} {v w x y : ℕ} {before after : Bool} → v ≡ w → x ≡ y → Lifted d v x before c after → Lifted d w y before c after
lifted_as ev ex l = rw (ev, ex) at l

module _ {n e : ℕ} {times from to mark buffers : List ℕ} where
  -- No edge yet.
  pub swept_none : {d : List ℕ} → Backed n e times from to mark buffers d → EdgesSwept n e times from to mark buffers 0 d d false
  swept_none l = record { backed = l; rises = omega arith; quiet = λ i. (refl, λ j h. absurd (omega arith)); loud = λ i. differ (sym i) }

  -- One edge more.
  pub swept_more :
      {k : ℕ} {a b d : List ℕ} {x y : Bool} → k < e → EdgesSwept n e times from to mark buffers k a b x → Lifted b (at to k) (done_by n times from to mark b k) x d y
      → EdgesSwept n e times from to mark buffers (k + 1) a d y
  swept_more {k} {b = b} h s (lifted l) =
      let more = total_rises b (at to k) _ (inside s.backed h) l in
      record { backed = lifted_backed s.backed h; rises = omega (arith, s.rises); quiet = λ i. differ i; loud = λ i. omega (arith, s.rises) }
  swept_more {k} {b = b} h s (kept l) =
      record {
        backed = s.backed;
        rises = s.rises;
        quiet = λ i. (
          (s.quiet i).0,
          λ j m. elim (ℕ_discrete j k) [
            | yes z ↦ subst (λ (u : ℕ). done_by n times from to mark b u ≤ at b (at to u)) (sym z) l
            | no z ↦ (s.quiet i).1 j (omega arith)
          ],
        );
        loud = s.loud;
      }
