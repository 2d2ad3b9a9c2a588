-- Tests that give their fact where they are passed, and say nothing where they are not.
use mathlib.Core.Bool.{Bool, true, false}
use mathlib.Core.List.{List, [], ◌∷◌}
use Prim.Native.Nat.{◌<◌, suc, zero, ℕ}
use native.Mathlib.Omega.{arith}
use lib.Dec.{T}
use borrow.Author.Count.{below_more}
use Rattle.cases.specs.Table.{EachOf}

-- What a test of A gives.
pub data Tried (A : Type 0) : Type 0 where
  gives : A → Tried A
  fails : Tried A

-- Whether it is passed,
abbrev pub passes : {A : Type 0} → Tried A → Bool
passes (gives a) = true
passes fails = false

-- and the fact, if it is.
pub given : {A : Type 0} (t : Tried A) → T (passes t) → A
given (gives a) h = a
given fails h = absurd h

-- A decision as a test.
abbrev pub try : {A : Type 0} → Dec A → Tried A
try (yes a) = gives a
try (no f) = fails

-- A test and what follows from it, two tests, and one or another.
abbrev pub so : {A B : Type 0} → (A → B) → Tried A → Tried B
so f (gives a) = gives (f a)
so f fails = fails

abbrev pub then : {A B : Type 0} → Tried A → (A → Tried B) → Tried B
then (gives a) f = f a
then fails f = fails

abbrev pub and : {A B : Type 0} → Tried A → Tried B → Tried (A × B)
and (gives a) (gives b) = gives (a, b)
and (gives a) fails = fails
and fails t = fails

abbrev pub or : {A : Type 0} → Tried A → Tried A → Tried A
or (gives a) t = gives a
or fails t = t

-- A test of each number below n,
abbrev pub below : {P : ℕ → Type 0} → ((j : ℕ) → Tried (P j)) → (n : ℕ) → Tried ((j : ℕ) → j < n → P j)
below t zero = gives (λ j l. absurd (omega arith))
below {P} t (suc n) = so (λ x j l. below_more P n x.1 x.0 j (omega arith)) (and (t n) (below t n))

-- and of each entry of a list.
abbrev pub every : {A : Type 0} {P : A → Type 0} → ((x : A) → Tried (P x)) → (xs : List A) → Tried (EachOf P xs)
every t [] = gives tt
every t (x ∷ xs) = and (t x) (every t xs)
