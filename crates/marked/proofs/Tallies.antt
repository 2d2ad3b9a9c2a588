-- Sums below a bound, point by point, and a list's sum by how often each number stands in it.
use mathlib.Core.Path.{◌≡◌, refl, sym}
use mathlib.Core.List.{List, [], ◌++◌, ◌∷◌}
use Prim.Native.Nat.{◌*◌, ◌+◌, ◌<◌, ◌≤◌, suc, zero, ℕ}
use native.Mathlib.Decide.{ℕ_discrete}
use native.Mathlib.Omega.{arith}
use Rattle.marked.specs.Lists.{All, Avoids, Distinct}
use Rattle.marked.specs.Sums.{sum, upto}
use Rattle.marked.specs.Firing.{count, hit}
use Rattle.marked.proofs.Hits.{hit_other, hit_same}

-- What agrees below n has the same sum.
pub upto_same : (x y : ℕ → ℕ) (n : ℕ) → ((u : ℕ) → u < n → x u ≡ y u) → upto x n ≡ upto y n
unfolding upto
upto_same x y zero h = refl
upto_same x y (suc n) h = omega (arith, upto_same x y n (λ u l. h u (omega arith)), h n (omega arith))

-- Sums add up.
pub upto_add : (x y : ℕ → ℕ) (n : ℕ) → upto (λ (u : ℕ). x u + y u) n ≡ upto x n + upto y n
unfolding upto
upto_add x y zero = omega arith
upto_add x y (suc n) = omega (arith, upto_add x y n)

-- n numbers of at most k each.
pub upto_most : (x : ℕ → ℕ) (k n : ℕ) → ((u : ℕ) → u < n → x u ≤ k) → upto x n ≤ n * k
unfolding upto
upto_most x k zero h = omega arith
upto_most x k (suc n) h = omega (arith, upto_most x k n (λ u l. h u (omega arith)), h n (omega arith))

-- A sum of noughts.
upto_zero : (x : ℕ → ℕ) (n : ℕ) → ((u : ℕ) → u < n → x u ≡ 0) → upto x n ≡ 0
unfolding upto
upto_zero x zero h = refl
upto_zero x (suc n) h = omega (arith, upto_zero x n (λ u l. h u (omega arith)), h n (omega arith))

-- One number below n is hit, once.
upto_hit : (f : ℕ → ℕ) (t n : ℕ) → t < n → upto (λ (u : ℕ). hit u t * f u) n ≡ f t
unfolding upto
upto_hit f t zero h = absurd (omega arith)
upto_hit f t (suc n) h = at (ℕ_discrete t n) (λ k. upto_hit f t n k)
  where
    miss : (u : ℕ) → u < t → hit u t * f u ≡ 0
    miss u l = rw (hit_other u t (omega arith)) (omega arith)

    at : Dec (t ≡ n) → (t < n → upto (λ (u : ℕ). hit u t * f u) n ≡ f t) → hit n t * f n + upto (λ (u : ℕ). hit u t * f u) n ≡ f t
    at (yes e) r = rw (← e, hit_same t) (omega (arith, upto_zero (λ (u : ℕ). hit u t * f u) t miss))
    at (no k) r = rw (hit_other n t (λ e. k (sym e))) (omega (arith, r (omega arith)))

-- A list of numbers below n sums f to what each, as often as it stands there, brings.
pub sum_count : (f : ℕ → ℕ) (n : ℕ) (xs : List ℕ) → All (◌< n) xs → sum f xs ≡ upto (λ (u : ℕ). count u xs * f u) n
unfolding sum count
sum_count f n [] a = sym (upto_zero (λ (u : ℕ). 0 * f u) n (λ u l. omega arith))
sum_count f n (x ∷ xs) a =
    omega (
      arith,
      sum_count f n xs a.1,
      upto_hit f x n a.0,
      upto_add (λ (u : ℕ). hit u x * f u) (λ (u : ℕ). count u xs * f u) n,
      upto_same (λ (u : ℕ). (hit u x + count u xs) * f u) (λ (u : ℕ). hit u x * f u + count u xs * f u) n (λ u l. omega arith),
    )

-- A number stands in two lists as often as in each.
pub count_append : (t : ℕ) (xs ys : List ℕ) → count t (xs ++ ys) ≡ count t xs + count t ys
unfolding count
count_append t [] ys = omega arith
count_append t (x ∷ xs) ys = omega (arith, count_append t xs ys)

-- What a list avoids does not stand in it,
count_avoids : (t : ℕ) (xs : List ℕ) → Avoids t xs → count t xs ≡ 0
unfolding count
count_avoids t [] a = refl
count_avoids t (x ∷ xs) a = omega (arith, hit_other t x a.0, count_avoids t xs a.1)

-- and where none stands twice each stands once at most.
pub count_distinct : (t : ℕ) (xs : List ℕ) → Distinct xs → count t xs ≤ 1
unfolding count
count_distinct t [] d = omega arith
count_distinct t (x ∷ xs) d = at (ℕ_discrete t x) (count_distinct t xs d.1)
  where
    at : Dec (t ≡ x) → count t xs ≤ 1 → hit t x + count t xs ≤ 1
    at (yes e) r = rw e (omega (arith, hit_same x, count_avoids x xs d.0))
    at (no f) r = omega (arith, hit_other t x f)
