-- Laws of filling a buffer with the times of the transitions, operation by operation.
use mathlib.Core.Path.{◌≡◌, ◌∙◌, ap, refl, sym}
use mathlib.Core.List.{List}
use Prim.Native.Nat.{◌*◌, ◌+◌, ◌-◌, ◌/◌, ◌<◌, ◌≤◌, ℕ}
use native.Mathlib.Decide.{dec_lt, ℕ_discrete}
use native.Mathlib.Omega.{arith}
use lib.ListN.{length, length-set, replicate, set}
use lib.Seq.{get_or-set_other, get_or-set_same}
use Rattle.marked.specs.Net.{at}
use Rattle.marked.proofs.Fresh.{zeros}
use Rattle.net.specs.Limits.{most_transitions}
use Rattle.net.specs.Plan.{time_at}
use Rattle.net.specs.Ends.{time_of}
use Rattle.net.proofs.Shapes.{time_other, time_process}

-- The transitions before row i's process have their times; from it on all is 0.
pub record TimedTo (times : List ℕ) (i : ℕ) (out : List ℕ) : Type 0 where
  pub each : (t : ℕ) → t < 3 * i + 2 → at out t ≡ time_of (time_at times) t
  pub rest : (t : ℕ) → 3 * i + 2 ≤ t → at out t ≡ 0
  pub long : length out ≡ most_transitions

-- The process of row i takes its operation's time.
process_time : (times : List ℕ) (i : ℕ) → time_of (time_at times) (3 * i + 2) ≡ at times i
process_time times i =
    let row : (3 * i + 2) / 3 + 1 - 1 ≡ i = omega arith in
    time_process (time_at times) (3 * i + 2) (omega arith) ∙ ap (at times) row

pub timed_none : (times : List ℕ) → TimedTo times 0 (replicate most_transitions 0)
timed_none times =
    record {
      each = λ t h. zeros most_transitions t ∙ sym (time_other (time_at times) t (λ k. omega arith));
      rest = λ t h. zeros most_transitions t;
      long = refl;
    }

-- One row more.
pub timed_on : {times out : List ℕ} {i : ℕ} → 3 * i + 2 < most_transitions → TimedTo times i out → TimedTo times (i + 1) (set out (3 * i + 2) (at times i))
timed_on {times} {out} {i} few o =
    let q : ℕ = 3 * i + 2 in
    record {
      each = λ t h. elim (ℕ_discrete t q) [
        | yes e ↦ rw e (get_or-set_same out q (at times i) 0 (omega (arith, o.long)) ∙ sym (process_time times i))
        | no e ↦ get_or-set_other out q t (at times i) 0 e ∙ elim (dec_lt t q) [
          | yes k ↦ o.each t k
          | no k ↦ o.rest t (omega arith) ∙ sym (time_other (time_at times) t (λ j. omega arith))
        ]
      ];
      rest = λ t h. get_or-set_other out q t (at times i) 0 (λ e. omega arith) ∙ o.rest t (omega arith);
      long = length-set out q (at times i) ∙ o.long;
    }
