-- A list without a repetition sums to no more than all numbers below its bound: the pigeonhole.
use mathlib.Core.Path.{◌≡◌, refl}
use mathlib.Core.List.{List, [], ◌++◌, ◌∷◌}
use Prim.Native.Nat.{◌*◌, ◌+◌, ◌<◌, ◌≤◌, suc, zero, ℕ}
use native.Mathlib.Decide.{ℕ_discrete}
use native.Mathlib.Nat.{mul-le-mul_right}
use native.Mathlib.Omega.{arith}
use lib.ListN.{length}
use Rattle.marked.specs.Lists.{All, Distinct}
use Rattle.marked.specs.Sums.{sum, upto}
use Rattle.marked.specs.Firing.{count}
use Rattle.marked.proofs.Tallies.{count_distinct, sum_count, upto_same}

-- A sum over two lists.
pub sum_append : (f : ℕ → ℕ) (xs ys : List ℕ) → sum f (xs ++ ys) ≡ sum f xs + sum f ys
unfolding sum
sum_append f [] ys = omega arith
sum_append f (x ∷ xs) ys = omega (arith, sum_append f xs ys)

-- What is nowhere more has no larger sum,
pub upto_le : (x y : ℕ → ℕ) (n : ℕ) → ((u : ℕ) → y u ≤ x u) → upto y n ≤ upto x n
unfolding upto
upto_le x y zero h = omega arith
upto_le x y (suc n) h = omega (arith, upto_le x y n h, h n)

-- and a smaller one where it is less somewhere.
pub upto_less : (x y : ℕ → ℕ) (n t : ℕ) → ((u : ℕ) → y u ≤ x u) → t < n → y t < x t → upto y n < upto x n
unfolding upto
upto_less x y zero t h l s = absurd (omega arith)
upto_less x y (suc n) t h l s = at (ℕ_discrete t n) (λ k. upto_less x y n t h k s)
  where
    at : Dec (t ≡ n) → (t < n → upto y n < upto x n) → y n + upto y n < x n + upto x n
    at (yes e) r = let z : y n < x n = rw e at s in omega (arith, upto_le x y n h)
    at (no f) r = omega (arith, r (omega arith), h n)

-- A summand is no more than the sum.
pub upto_part : (x : ℕ → ℕ) (n t : ℕ) → t < n → x t ≤ upto x n
unfolding upto
upto_part x zero t l = absurd (omega arith)
upto_part x (suc n) t l = at (ℕ_discrete t n) (λ k. upto_part x n t k)
  where
    at : Dec (t ≡ n) → (t < n → x t ≤ upto x n) → x t ≤ x n + upto x n
    at (yes e) r = rw e (omega arith)
    at (no f) r = omega (arith, r (omega arith))

-- A sum above 0 has a summand above 0.
pub upto_some : (x : ℕ → ℕ) (n : ℕ) → 0 < upto x n → (u : ℕ) × (u < n) × (0 < x u)
unfolding upto
upto_some x zero h = absurd (omega arith)
upto_some x (suc n) h = at (ℕ_discrete (x n) 0) (upto_some x n)
  where
    at : Dec (x n ≡ 0) → (0 < upto x n → (u : ℕ) × (u < n) × (0 < x u)) → (u : ℕ) × (u < suc n) × (0 < x u)
    at (yes e) r = let t = r (omega arith) in (t.0, omega (arith, t.1), t.2)
    at (no f) r = (n, omega arith, omega arith)

-- Different numbers below n sum to no more than all numbers below n.
pub sum_distinct : (f : ℕ → ℕ) (n : ℕ) (xs : List ℕ) → All (◌< n) xs → Distinct xs → sum f xs ≤ upto f n
sum_distinct f n xs a d = omega (arith, sum_count f n xs a, upto_le f (λ (u : ℕ). count u xs * f u) n (λ u. omega (arith, mul-le-mul_right (f u) (count_distinct u xs d))))

-- A list is as long as its entries stand in it together.
pub length_count : (n : ℕ) (xs : List ℕ) → All (◌< n) xs → length xs ≡ upto (λ (u : ℕ). count u xs) n
unfolding sum
length_count n xs a = omega (arith, sum_ones xs, sum_count (λ (x : ℕ). 1) n xs a, upto_same (λ (u : ℕ). count u xs * 1) (λ (u : ℕ). count u xs) n (λ u l. omega arith))
  where
    sum_ones : (xs : List ℕ) → sum (λ (x : ℕ). 1) xs ≡ length xs
    sum_ones [] = refl
    sum_ones (x ∷ xs) = omega (arith, sum_ones xs)

upto_ones : (n : ℕ) → upto (λ (x : ℕ). 1) n ≡ n
unfolding upto
upto_ones zero = refl
upto_ones (suc n) = omega (arith, upto_ones n)

-- The pigeonhole: there are no more than n different numbers below n.
pub pigeonhole : (n : ℕ) (xs : List ℕ) → All (◌< n) xs → Distinct xs → length xs ≤ n
pigeonhole n xs a d = omega (arith, length_count n xs a, upto_le (λ (u : ℕ). 1) (λ (u : ℕ). count u xs) n (λ u. count_distinct u xs d), upto_ones n)
