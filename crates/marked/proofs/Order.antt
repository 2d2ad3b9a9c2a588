-- The dictionary order of lists of places: strict, and total on circuits, since no circuit is the beginning of another.
use mathlib.Core.Path.{◌∙◌, ◌≡◌, refl, sym}
use mathlib.Core.Logic.{◌≢◌, ◌⊎◌, inl, inr}
use mathlib.Core.List.{List, [], ◌++◌, ◌∷◌, append-nil}
use Prim.Native.Nat.{◌<◌, ℕ}
use native.Mathlib.Decide.{dec_lt}
use native.Mathlib.Omega.{arith}
use Rattle.marked.specs.Lists.{Avoids}
use Rattle.marked.specs.Net.{Net}
use Rattle.marked.specs.Circuits.{Circuit, froms}
use Rattle.marked.specs.Order.{Before, later, lower}
use Rattle.marked.proofs.Walks.{ends_same, froms_append, part, rest, starts}
use Rattle.marked.proofs.Entries.{all_right}

-- No list stands before itself,
before_differs : {ps qs : List ℕ} → Before ps qs → ¬ (ps ≡ qs)
before_differs (lower {p = p} {q = q} h) e = let same : p ≡ q = cc in omega arith
before_differs (later {ps = ps} {qs = qs} b) e = before_differs b (let same : ps ≡ qs = cc in same)

pub before_irreflexive : {ps : List ℕ} → ¬ Before ps ps
before_irreflexive b = before_differs b refl

-- the order goes on,
pub before_transitive : {ps qs rs : List ℕ} → Before ps qs → Before qs rs → Before ps rs
before_transitive (lower {p = p} h) (lower {q = r} k) = lower {p = p} {q = r} (omega arith)
before_transitive (lower h) (later c) = lower h
before_transitive (later b) (lower k) = lower k
before_transitive (later b) (later c) = later (before_transitive b c)

-- and so it never goes both ways.
pub before_asymmetric : {ps qs : List ℕ} → Before ps qs → ¬ Before qs ps
before_asymmetric b c = before_irreflexive (before_transitive b c)

-- A set of lists has one first member at most.
pub first_unique : (S : List ℕ → Type 0) {ps qs : List ℕ} → S ps → S qs → ((rs : List ℕ) → S rs → (ps ≡ rs) ⊎ Before ps rs) → ((rs : List ℕ) → S rs → (qs ≡ rs) ⊎ Before qs rs) → ps ≡ qs
first_unique S {ps} {qs} s t f h = at (f qs t) (h ps s)
  where
    at : (ps ≡ qs) ⊎ Before ps qs → (qs ≡ ps) ⊎ Before qs ps → ps ≡ qs
    at (inl e) r = e
    at (inr b) (inl e) = sym e
    at (inr b) (inr c) = absurd (before_asymmetric b c)

-- No circuit is the beginning of another.
pub no_beginning : {g : Net} {a b : ℕ} (ps more : List ℕ) → Circuit g a ps → Circuit g b (ps ++ more) → more ≡ []
no_beginning [] more c d = absurd (omega (arith, c.some))
no_beginning (p ∷ ps) [] c d = refl
no_beginning {g} {a} (p ∷ ps) (q ∷ more) c d =
    let t = part (p ∷ ps) (q ∷ more) d.walk in
    let e : g.src p ≡ g.src q = starts c.walk ∙ ends_same (rest c.walk) (rest t.1) ∙ sym (starts t.2) in
    let new : Avoids (g.src p) (froms g ps ++ froms g (q ∷ more)) = rw (froms_append g ps (q ∷ more)) at d.simple.0 in
    absurd ((all_right (λ (y : ℕ). g.src p ≢ y) (froms g ps) (froms g (q ∷ more)) new).0 e)

-- How two lists stand: one before the other, or one the beginning of the other.
data Stand : List ℕ → List ℕ → Type 0 where
  before : {ps qs : List ℕ} → Before ps qs → Stand ps qs
  behind : {ps qs : List ℕ} → Before qs ps → Stand ps qs
  begins : {ps : List ℕ} (more : List ℕ) → Stand ps (ps ++ more)
  begun : {qs : List ℕ} (more : List ℕ) → Stand (qs ++ more) qs

-- Two lists stand so.
stand : (ps qs : List ℕ) → Stand ps qs
stand [] qs = begins qs
stand (p ∷ ps) [] = begun (p ∷ ps)
stand (p ∷ ps) (q ∷ qs) = at (dec_lt p q) (dec_lt q p) (stand ps qs)
  where
    on : (ps qs : List ℕ) → Stand ps qs → Stand (p ∷ ps) (p ∷ qs)
    on ps qs (before b) = before (later b)
    on ps qs (behind b) = behind (later b)
    on ps qs (begins more) = begins more
    on ps qs (begun more) = begun more

    at : Dec (p < q) → Dec (q < p) → Stand ps qs → Stand (p ∷ ps) (q ∷ qs)
    at (yes h) k s = before (lower h)
    at (no f) (yes h) s = behind (lower h)
    at (no f) (no k) s = let e : p ≡ q = omega arith in rw (← e) (on ps qs s)

-- Of two circuits one is written before the other, unless they are the same.
pub before_total : {g : Net} {a b : ℕ} (ps qs : List ℕ) → Circuit g a ps → Circuit g b qs → (ps ≡ qs) ⊎ (Before ps qs ⊎ Before qs ps)
before_total {g} {a} {b} ps qs c d = at ps qs (stand ps qs) c d
  where
    at : (ps qs : List ℕ) → Stand ps qs → Circuit g a ps → Circuit g b qs → (ps ≡ qs) ⊎ (Before ps qs ⊎ Before qs ps)
    at ps qs (before x) c d = inr (inl x)
    at ps qs (behind x) c d = inr (inr x)
    at ps qs (begins more) c d = inl (rw (no_beginning ps more c d) (sym (append-nil ps)))
    at ps qs (begun more) c d = inl (rw (no_beginning qs more d c) (append-nil qs))
