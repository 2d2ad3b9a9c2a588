-- Folding by max and by min bounds the first entries of a row.
use Prim.Native.Nat.{ℕ, ◌<◌, ◌≤◌, zero, suc}
use mathlib.Core.Path.{◌≡◌}
use mathlib.Core.List.{List, [], ◌∷◌}
use native.Mathlib.Omega.{arith}
use lib.ListN.{length, length-take, take}
use Rattle.std.specs.Prelude.{max, min}
use Rattle.std.specs.List.{fold}
use Rattle.std.proofs.lemmas.List.{get_or-take}
use Rattle.marked.specs.Net.{at}
use Rattle.judge_extremes.specs.helpers.Extremes.{NoneAbove, NoneBelow}

-- Whatever order the fold climbs by, it ends at or past where it began and every entry.
module _ (pick : ℕ → ℕ → ℕ) (To : ℕ → ℕ → Type 0) (stay : (a : ℕ) → To a a) (left : (a x c : ℕ) → To (pick a x) c → To a c)
    (right : (a x c : ℕ) → To (pick a x) c → To x c) where
  begun : (xs : List ℕ) (a : ℕ) → To a (fold pick a xs)
  begun [] a = stay a
  begun (x ∷ xs) a = left a x _ (begun xs (pick a x))

  each : (xs : List ℕ) (a k : ℕ) → k < length xs → To (at xs k) (fold pick a xs)
  each [] a k l = absurd (omega arith)
  each (x ∷ xs) a zero l = right a x _ (begun xs (pick a x))
  each (x ∷ xs) a (suc k) l = each xs (pick a x) k (omega arith)

pub folded_above : {e r : ℕ} (a : ℕ) (row : List ℕ) → e ≤ length row → r ≡ fold max a (take e row) → NoneAbove e row r
folded_above {e} a row h p = record {
  above = λ k l. rw (p, ← (get_or-take e row k 0 l)) (each max (λ x y. x ≤ y) (λ x. omega arith) (λ x y z i. omega arith) (λ x y z i. omega arith) (take e row) a k (omega (arith, length-take e row)));
}

pub folded_below : {e r : ℕ} (a : ℕ) (row : List ℕ) → e ≤ length row → r ≡ fold min a (take e row) → NoneBelow e row r
folded_below {e} a row h p = record {
  below = λ k l. rw (p, ← (get_or-take e row k 0 l)) (each min (λ x y. y ≤ x) (λ x. omega arith) (λ x y z i. omega arith) (λ x y z i. omega arith) (take e row) a k (omega (arith, length-take e row)));
}
