-- Numbers below n repeat among the first n + 1 of them.
use mathlib.Core.Path.{◌≡◌, ap, refl, sym}
use mathlib.Core.Logic.{◌⊎◌, inl, inr}
use mathlib.Core.List.{List, [], ◌∷◌}
use Prim.Native.Nat.{◌<◌, suc, zero, ℕ}
use native.Mathlib.Omega.{arith}
use native.Mathlib.Decide.{ℕ_discrete}
use lib.ListN.{length}
use Rattle.marked.specs.Lists.{All, Avoids, Distinct}
use Rattle.marked.proofs.Pigeonhole.{pigeonhole}

-- Repetitions of a function below k.
pub record Repeats (f : ℕ → ℕ) (k : ℕ) : Type 0 where
  pub i : ℕ
  pub j : ℕ
  pub less : i < j
  pub within : j < k
  pub same : f i ≡ f j

trace : (ℕ → ℕ) → ℕ → List ℕ
trace f zero = []
trace f (suc k) = f k ∷ trace f k

-- y is the value at some number below k, or none
sought : (f : ℕ → ℕ) (y k : ℕ) → ((i : ℕ) × (i < k) × (f i ≡ y)) ⊎ Avoids y (trace f k)
unfolding trace
sought f y zero = inr tt
sought f y (suc k) = at (ℕ_discrete (f k) y) (sought f y k)
  where
    at : Dec (f k ≡ y) → ((i : ℕ) × (i < k) × (f i ≡ y)) ⊎ Avoids y (trace f k) → ((i : ℕ) × (i < suc k) × (f i ≡ y)) ⊎ Avoids y (trace f (suc k))
    at (yes e) r = inl (k, omega arith, e)
    at (no n) (inl r) = inl (r.0, omega (arith, r.1), r.2)
    at (no n) (inr r) = inr ((λ e. n (sym e)), r)

repeats : (f : ℕ → ℕ) (k : ℕ) → Repeats f k ⊎ Distinct (trace f k)
unfolding trace
repeats f zero = inr tt
repeats f (suc k) = at (repeats f k) (sought f (f k) k)
  where
    at : Repeats f k ⊎ Distinct (trace f k) → ((i : ℕ) × (i < k) × (f i ≡ f k)) ⊎ Avoids (f k) (trace f k) → Repeats f (suc k) ⊎ Distinct (trace f (suc k))
    at (inl r) s = inl (record { i = r.i; j = r.j; less = r.less; within = omega (arith, r.within); same = r.same })
    at (inr d) (inl s) = inl (record { i = s.0; j = k; less = s.1; within = omega arith; same = s.2 })
    at (inr d) (inr s) = inr (s, d)

trace_all : (f : ℕ → ℕ) (n k : ℕ) → ((i : ℕ) → f i < n) → All (◌< n) (trace f k)
unfolding trace
trace_all f n zero h = tt
trace_all f n (suc k) h = (h k, trace_all f n k h)

trace_length : (f : ℕ → ℕ) (k : ℕ) → length (trace f k) ≡ k
unfolding trace
trace_length f zero = refl
trace_length f (suc k) = ap suc (trace_length f k)

-- Numbers below n repeat among the first n + 1.
pub crowded : (f : ℕ → ℕ) (n : ℕ) → ((i : ℕ) → f i < n) → Repeats f (suc n)
crowded f n h = at (repeats f (suc n))
  where
    at : Repeats f (suc n) ⊎ Distinct (trace f (suc n)) → Repeats f (suc n)
    at (inl r) = r
    at (inr d) = absurd (omega (arith, pigeonhole n (trace f (suc n)) (trace_all f n (suc n) h) d, trace_length f (suc n)))
