-- Tests that compute: each tells whether its fact holds, and one that is passed gives the fact.
use mathlib.Core.Path.{◌≡◌}
use mathlib.Core.Bool.{Bool, true, false}
use mathlib.Core.List.{List, [], ◌∷◌}
use Prim.Native.Nat.{◌<◌, ◌≤◌, suc, zero, ℕ}
use native.Mathlib.Decide.{ℕ_discrete}
use native.Mathlib.Omega.{arith}
use lib.Dec.{T, leb, ltb, eqb, eqb_refl, le→leb, leb→le, lt→ltb, ltb→lt, eqb→eq}
use Rattle.marked.specs.Lists.{All, Distinct}

-- Whether a test is passed.
abbrev pub passes : {A : Type 0} → Dec A → Bool
passes (yes h) = true
passes (no f) = false

-- A test that is passed gives its fact.
pub passed : {A : Type 0} (d : Dec A) → T (passes d) → A
passed (yes h) t = h
passed (no f) t = absurd t

-- A test by a Boolean that says the same.
abbrev told : {A : Type 0} (b : Bool) → (T b → A) → (A → T b) → Dec A
told true f k = yes (f tt)
told false f k = no k

-- Tests of two numbers.
abbrev pub le? : (x y : ℕ) → Dec (x ≤ y)
le? x y = told (leb x y) (leb→le x y) (le→leb x y)

abbrev pub lt? : (x y : ℕ) → Dec (x < y)
lt? x y = told (ltb x y) (ltb→lt x y) (lt→ltb x y)

abbrev pub eq? : (x y : ℕ) → Dec (x ≡ y)
eq? x y = told (eqb x y) (eqb→eq x y) (λ e. rw e (eqb_refl y))

-- Tests of two facts, of the contrary, of one fact given another, and of a fact by an equal one.
abbrev pub both? : {A B : Type 0} → Dec A → Dec B → Dec (A × B)
both? (yes a) (yes b) = yes (a, b)
both? (yes a) (no f) = no (λ x. f x.1)
both? (no f) d = no (λ x. f x.0)

abbrev not? : {A : Type 0} → Dec A → Dec (¬ A)
not? (yes a) = no (λ f. f a)
not? (no f) = yes f

abbrev pub given? : {A B : Type 0} → Dec A → Dec B → Dec (A → B)
given? (no f) d = yes (λ a. absurd (f a))
given? (yes a) (yes b) = yes (λ _. b)
given? (yes a) (no f) = no (λ h. f (h a))

abbrev pub same? : {A B : Type 0} → (A → B) → (B → A) → Dec A → Dec B
same? f k (yes a) = yes (f a)
same? f k (no h) = no (λ b. h (k b))

-- Whether P holds below n.
abbrev pub each? : {P : ℕ → Type 0} → ((p : ℕ) → Dec (P p)) → (n : ℕ) → Dec ((p : ℕ) → p < n → P p)
each? t zero = yes (λ p h. absurd (omega arith))
each? {P} t (suc n) = same? (λ x p h. last x p h (ℕ_discrete p n)) (λ h. (h n (omega arith), λ p l. h p (omega arith))) (both? (t n) (each? t n))
  where
    last : P n × ((p : ℕ) → p < n → P p) → (p : ℕ) → p < suc n → Dec (p ≡ n) → P p
    last x p h (yes e) = rw e x.0
    last x p h (no f) = x.1 p (omega arith)

-- Whether P holds of every entry.
abbrev pub all? : {P : ℕ → Type 0} → ((x : ℕ) → Dec (P x)) → (xs : List ℕ) → Dec (All P xs)
all? t [] = yes tt
all? t (x ∷ xs) = both? (t x) (all? t xs)

-- Whether no number stands twice.
abbrev pub distinct? : (xs : List ℕ) → Dec (Distinct xs)
distinct? [] = yes tt
distinct? (x ∷ xs) = both? (all? (λ y. not? (eq? x y)) xs) (distinct? xs)
