-- Each fraction has lowest terms: try the denominators from 1 up.
use mathlib.Core.Path.{◌∙◌, ◌≡◌, ap}
use mathlib.Core.List.{List}
use Prim.Native.Nat.{◌%◌, ◌*◌, ◌/◌, ◌≤◌, ℕ}
use native.Mathlib.Nat.{div-add-mod', eq_of_mul-eq-mul_right, le_of_mul-le-mul_right, mul-le-mul_left, mul-mod_left}
use native.Mathlib.Omega.{arith}
use Rattle.marked.specs.Net.{Net, lasts, tokens}
use Rattle.marked.specs.Circuits.{Circuit}
use Rattle.marked.specs.Bounds.{Largest, Reduced, SameRatio}
use Rattle.marked.proofs.Find.{first}
use Rattle.marked.proofs.Decide.{both?, eq?, le?}

-- e is a denominator of a / b.
abbrev Denominator : ℕ → ℕ → ℕ → Type 0
Denominator a b e = (1 ≤ e) × (a * e % b ≡ 0)

-- An equal fraction in lowest terms.
pub record Lowered (a b : ℕ) : Type 0 where
  pub num : ℕ
  pub den : ℕ
  pub same : SameRatio a b num den
  pub reduced : Reduced num den

-- Each fraction has one: the least denominator serves.
pub lower : (a b : ℕ) → 1 ≤ b → Lowered a b
lower a b h =
    let t = first (Denominator a b) (λ e. both? (le? 1 e) (eq? (a * e % b) 0)) b (h, mul-mod_left a b) in
    let e = t.0 in
    let c = a * e / b in
    let s : a * e ≡ c * b = omega (arith, div-add-mod' (a * e) b, t.1.1) in
    record { num = c; den = e; same = s; reduced = record { positive = t.1.0; least = λ c₂ e₂ k r. t.2 e₂ (k, again e c t.1.0 s c₂ e₂ r) } }
  where
    -- an equal fraction's denominator is one of a / b
    again : (e c : ℕ) → 1 ≤ e → a * e ≡ c * b → (c₂ e₂ : ℕ) → c * e₂ ≡ c₂ * e → a * e₂ % b ≡ 0
    again e c k s c₂ e₂ r =
        let f1 : a * e * e₂ ≡ c * b * e₂ = ap (λ (x : ℕ). x * e₂) s in
        let f2 : c * e₂ * b ≡ c₂ * e * b = ap (λ (x : ℕ). x * b) r in
        let f3 : a * e₂ ≡ c₂ * b = eq_of_mul-eq-mul_right e k (a * e₂) (c₂ * b) (omega arith) in
        ap (λ (x : ℕ). x % b) f3 ∙ mul-mod_left c₂ b

-- The largest time per token may be told in any terms.
pub largest_same : (g : Net) (m time : ℕ → ℕ) (a b c e : ℕ) → 1 ≤ b → SameRatio a b c e → Largest g m time a b → Largest g m time c e
largest_same g m time a b c e h s x =
    record {
      bound = bounds;
      turn = x.turn;
      ring = x.ring;
      circuit = x.circuit;
      attains = eq_of_mul-eq-mul_right b h (e * lasts g time x.ring) (c * tokens m x.ring) (omega (arith, ap (λ (z : ℕ). e * z) x.attains, ap (λ (z : ℕ). z * tokens m x.ring) s));
    }
  where
    bounds : (v : ℕ) (ps : List ℕ) → Circuit g v ps → e * lasts g time ps ≤ c * tokens m ps
    bounds v ps y = le_of_mul-le-mul_right {k = b} (omega (arith, mul-le-mul_left e (x.bound v ps y), ap (λ (z : ℕ). z * tokens m ps) s)) h
