-- The chosen circuit is one, and the same in any terms of the fraction.
use mathlib.Core.Path.{◌≡◌, ap, sym, ◌∙◌}
use mathlib.Core.Logic.{◌⊎◌, inl, inr}
use mathlib.Core.List.{List, ◌++◌}
use Prim.Native.Nat.{◌*◌, ◌≤◌, ℕ}
use native.Mathlib.Nat.{le_antisymm, le_of_mul-le-mul_right}
use native.Mathlib.Omega.{arith}
use lib.ListN.{drop, length}
use Rattle.marked.specs.Net.{Net, lasts, tokens}
use Rattle.marked.specs.Order.{Before}
use Rattle.marked.specs.Bounds.{Attains, SameRatio}
use Rattle.marked.proofs.Order.{before_asymmetric}
use Rattle.circuit.specs.Chosen.{Chosen, Handed}

-- No other circuit is the chosen one.
pub chosen_unique : {g : Net} {m time : ℕ → ℕ} {a b : ℕ} {ps qs : List ℕ} → Chosen g m time a b ps → Chosen g m time a b qs → ps ≡ qs
chosen_unique {ps = ps} {qs = qs} x y = at (x.first y.turn qs y.circuit y.attains y.lowest) (y.first x.turn ps x.circuit x.attains x.lowest)
  where
    at : (ps ≡ qs) ⊎ Before ps qs → (qs ≡ ps) ⊎ Before qs ps → ps ≡ qs
    at (inl e) r = e
    at (inr b) (inl e) = sym e
    at (inr b) (inr c) = absurd (before_asymmetric b c)

-- So what is handed out is determined: the length and every entry of the buffer.
pub handed_unique : {g : Net} {m time : ℕ → ℕ} {a b k l : ℕ} {before after other : List ℕ} → Handed g m time a b before k after → Handed g m time a b before l other → (k ≡ l) × (after ≡ other)
handed_unique {k = k} {before = before} x y =
    let e : x.ring ≡ y.ring = chosen_unique x.chosen y.chosen in
    let n = sym x.long ∙ ap length e ∙ y.long in
    (n, x.written ∙ ap (λ (r : List ℕ). r ++ drop k before) e ∙ ap (λ (z : ℕ). y.ring ++ drop z before) n ∙ sym y.written)

-- To attain a fraction is to attain it in any terms.
attains_same : (g : Net) (m time : ℕ → ℕ) (a b c e : ℕ) → 1 ≤ b → SameRatio a b c e → (ps : List ℕ) → Attains g m time a b ps → Attains g m time c e ps
attains_same g m time a b c e h s ps x =
    let f1 : e * (b * lasts g time ps) ≡ e * (a * tokens m ps) = ap (λ (z : ℕ). e * z) x in
    let f2 : a * e * tokens m ps ≡ c * b * tokens m ps = ap (λ (z : ℕ). z * tokens m ps) s in
    le_antisymm (le_of_mul-le-mul_right {k = b} (omega arith) h) (le_of_mul-le-mul_right {k = b} (omega arith) h)

-- So the chosen circuit is the same in any terms.
pub chosen_same : (g : Net) (m time : ℕ → ℕ) (a b c e : ℕ) → 1 ≤ b → 1 ≤ e → SameRatio a b c e → (ps : List ℕ) → Chosen g m time a b ps → Chosen g m time c e ps
chosen_same g m time a b c e h k s ps x = record {
  turn = x.turn;
  circuit = x.circuit;
  attains = attains_same g m time a b c e h s ps x.attains;
  lowest = x.lowest;
  first = λ v qs y z l. x.first v qs y (attains_same g m time c e a b k (sym s) qs z) l;
}

pub handed_same :
    (g : Net) (m time : ℕ → ℕ) (a b c e : ℕ) → 1 ≤ b → 1 ≤ e → SameRatio a b c e
    → {before after : List ℕ} {len : ℕ} → Handed g m time a b before len after → Handed g m time c e before len after
handed_same g m time a b c e h k s x =
    record { ring = x.ring; chosen = chosen_same g m time a b c e h k s x.ring x.chosen; long = x.long; written = x.written }
