-- Fractions of natural numbers: lowest terms without divisors, and that fractions of bounded denominators grow in steps.
use mathlib.Core.Path.{◌∙◌, ◌≡◌, ap, sym}
use Prim.Native.Nat.{◌*◌, ◌/◌, ◌<◌, ◌≤◌, suc, ℕ}
use native.Mathlib.Nat.{div-le_self, div-mul-le_self, eq_of_mul-eq-mul_right, le_antisymm, le-div_iff_mul-le, le_of_mul-le-mul_right, mul-le-mul, mul-le-mul_left, mul-le-mul_right}
use native.Mathlib.Omega.{arith}
use Rattle.marked.specs.Bounds.{Reduced, SameRatio}

-- A fraction has one form in lowest terms.
pub reduced_unique : (a b c e : ℕ) → Reduced a b → Reduced c e → SameRatio a b c e → (a ≡ c) × (b ≡ e)
reduced_unique a b c e x y s =
    let same : b ≡ e = le_antisymm (x.least c e y.positive s) (y.least a b x.positive (sym s)) in
    let t : a * b ≡ c * b = ap (λ (z : ℕ). a * z) same ∙ s in
    (eq_of_mul-eq-mul_right b x.positive a c t, same)

-- Fractions with denominators up to n that differ do so by a step of 1 / (n * n).
pub ratio_step : (n a b c e : ℕ) → 1 ≤ b → b ≤ n → 1 ≤ e → e ≤ n → a * e < c * b → n * n * a / b < n * n * c / e
ratio_step n a b c e b1 bn e1 en h =
    let q = n * n * a / b in
    let f1 : q * b * e ≤ n * n * a * e = mul-le-mul_right e (div-mul-le_self (n * n * a) b) in
    let f2 : b * e ≤ n * n = mul-le-mul bn en in
    let f3 : n * n * suc (a * e) ≤ n * n * (c * b) = mul-le-mul_left (n * n) h in
    let f4 : (suc q * e) * b ≤ (n * n * c) * b = omega arith in
    (le-div_iff_mul-le e1).1 (le_of_mul-le-mul_right {k = b} f4 b1)

-- A fraction of a numerator up to s is no more than so many of these steps.
pub ratio_bound : (n a b s : ℕ) → a ≤ s → n * n * a / b ≤ n * n * s
ratio_bound n a b s h = omega (arith, div-le_self (n * n * a) b, mul-le-mul_left (n * n) h)
