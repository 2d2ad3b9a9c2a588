-- Euclid's algorithm: what two numbers have in common stays as they shrink, and dividing by it leaves lowest terms.
use mathlib.Core.Path.{◌≡◌, ap}
use Prim.Native.Nat.{◌%◌, ◌∣◌, ◌*◌, ◌+◌, ◌/◌, ◌<◌, ◌≤◌, ℕ}
use native.Mathlib.Nat.{div-add-mod', div-mul_cancel, dvd-add_iff_right, dvd-mod_iff, dvd-mul_left, dvd-mul_left_of_dvd, dvd-mul_right, dvd-zero, le_of_dvd, le_of_mul-le-mul_right, mul-le-mul}
use native.Mathlib.Decide.{ℕ_discrete}
use native.Mathlib.Omega.{arith}
use Rattle.fraction.specs.helpers.Terms.{InLowest}
use Rattle.fraction.specs.helpers.Divides.{Divisor}

-- x and y have in common what a and b have.
pub record Common (a b x y : ℕ) : Type 0 where
  pub some : 1 ≤ x + y
  pub both : (g : ℕ) → g ∣ x → g ∣ y → (g ∣ a) × (g ∣ b)
  pub most : (m k : ℕ) → m ∣ a * k → m ∣ b * k → (m ∣ x * k) × (m ∣ y * k)

pub common_start : {a b : ℕ} → 1 ≤ b → Common a b a b
common_start h = record { some = omega arith; both = λ g u v. (u, v); most = λ m k u v. (u, v) }

module _ {a b x y : ℕ} (c : Common a b x y) where
  -- What divides multiples of x and y divides the remainder's.
  remainder : (m k : ℕ) → m ∣ x * k → m ∣ y * k → m ∣ x % y * k
  remainder m k u v =
      let e : x / y * (y * k) + x % y * k ≡ x * k = omega (arith, ap (λ (z : ℕ). z * k) (div-add-mod' x y)) in
      (dvd-add_iff_right m (dvd-mul_left_of_dvd m v (x / y))).1 (rw e u)

  pub common_on : 1 ≤ y → Common a b y (x % y)
  common_on h = record {
    some = omega arith;
    both = λ g u v. c.both g ((dvd-mod_iff g u).0 v) u;
    most = λ m k u v. let o = c.most m k u v in (o.1, remainder m k o.0 o.1);
  }

  pub common_end : y ≡ 0 → Divisor a b x
  common_end e =
      let d = c.both x (dvd_mul_one x) (rw e (dvd-zero x)) in
      record { some = omega (arith, c.some); above = d.0; below = d.1; most = λ m k u v. (c.most m k u v).0 }
    where
      dvd_mul_one : (n : ℕ) → n ∣ n
      dvd_mul_one n = let z : n * 1 ≡ n = omega arith in rw z at (dvd-mul_right n 1)

-- Divided by it, the fraction is in lowest terms.
pub in_lowest : (a b g : ℕ) → 1 ≤ b → Divisor a b g → InLowest a b (a / g) (b / g)
in_lowest a b g h d =
    let ea : a / g * g ≡ a = div-mul_cancel g d.above in
    let eb : b / g * g ≡ b = div-mul_cancel g d.below in
    let some : 1 ≤ g = d.some in
    record {
      same = omega (arith, ap (λ (z : ℕ). z * (b / g)) ea, ap (λ (z : ℕ). a / g * z) eb);
      reduced = record {
        positive = elim (ℕ_discrete (b / g) 0) [ yes z ↦ absurd (omega (arith, ap (λ (x : ℕ). x * g) z)) | no z ↦ omega arith ];
        least = λ u v k s.
            let e : a * v ≡ u * b = omega (arith, ap (λ (z : ℕ). z * v) ea, ap (λ (z : ℕ). u * z) eb, ap (λ (z : ℕ). z * g) s) in
            let m : b ∣ g * v = d.most b v (rw e (dvd-mul_left b u)) (dvd-mul_right b v) in
            let p : 0 < g * v = times_some g v some k in
            let l : b ≤ g * v = le_of_dvd p m in
            le_of_mul-le-mul_right {k = g} (omega arith) some;
      };
    }
  where
    times_some : (x y : ℕ) → 1 ≤ x → 1 ≤ y → 0 < x * y
    times_some x y i j = elim (ℕ_discrete (x * y) 0) [ yes z ↦ absurd (omega (arith, mul-le-mul i j)) | no z ↦ omega arith ]
