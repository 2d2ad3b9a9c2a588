-- Laws of what holds of every entry, and of lists without a repetition.
use mathlib.Core.Path.{sym}
use mathlib.Core.Logic.{◌≢◌}
use mathlib.Core.List.{List, [], ◌++◌, ◌∷◌}
use Prim.Native.Nat.{◌<◌, suc, zero, ℕ}
use native.Mathlib.Omega.{arith}
use lib.ListN.{length}
use Rattle.marked.specs.Lists.{All, Avoids, Distinct}
use Rattle.marked.specs.Net.{at}

-- What follows entry by entry holds of every entry.
pub all_map : {P Q : ℕ → Type 0} → ((x : ℕ) → P x → Q x) → (xs : List ℕ) → All P xs → All Q xs
all_map f [] a = tt
all_map f (x ∷ xs) a = (f x a.0, all_map f xs a.1)

-- What holds of every entry holds of the i-th.
pub all_at : (P : ℕ → Type 0) (xs : List ℕ) (i : ℕ) → All P xs → i < length xs → P (at xs i)
all_at P [] i h l = absurd (omega arith)
all_at P (x ∷ xs) zero h l = h.0
all_at P (x ∷ xs) (suc i) h l = all_at P xs i h.1 (omega arith)

-- What holds of two lists holds of the first,
pub all_left : (P : ℕ → Type 0) (xs ys : List ℕ) → All P (xs ++ ys) → All P xs
all_left P [] ys a = tt
all_left P (x ∷ xs) ys a = (a.0, all_left P xs ys a.1)

-- and of the second;
pub all_right : (P : ℕ → Type 0) (xs ys : List ℕ) → All P (xs ++ ys) → All P ys
all_right P [] ys a = a
all_right P (x ∷ xs) ys a = all_right P xs ys a.1

-- what holds of each holds of the two.
pub all_append : (P : ℕ → Type 0) (xs ys : List ℕ) → All P xs → All P ys → All P (xs ++ ys)
all_append P [] ys a b = b
all_append P (x ∷ xs) ys a b = (a.0, all_append P xs ys a.1 b)

-- What holds of any number holds of every entry.
pub all_any : (P : ℕ → Type 0) → ((x : ℕ) → P x) → (xs : List ℕ) → All P xs
all_any P f [] = tt
all_any P f (x ∷ xs) = (f x, all_any P f xs)

-- What follows from two facts of each entry.
pub all_zip : (P Q R : ℕ → Type 0) → ((x : ℕ) → P x → Q x → R x) → (xs : List ℕ) → All P xs → All Q xs → All R xs
all_zip P Q R f [] a b = tt
all_zip P Q R f (x ∷ xs) a b = (f x a.0 b.0, all_zip P Q R f xs a.1 b.1)

-- Where two lists have no repetition, the first has none,
pub distinct_left : (xs ys : List ℕ) → Distinct (xs ++ ys) → Distinct xs
distinct_left [] ys d = tt
distinct_left (x ∷ xs) ys d = (all_left (λ (y : ℕ). x ≢ y) xs ys d.0, distinct_left xs ys d.1)

-- the second has none,
pub distinct_right : (xs ys : List ℕ) → Distinct (xs ++ ys) → Distinct ys
distinct_right [] ys d = d
distinct_right (x ∷ xs) ys d = distinct_right xs ys d.1

-- and each entry of the second is new to the first.
pub distinct_cross : (xs ys : List ℕ) → Distinct (xs ++ ys) → All (λ (y : ℕ). Avoids y xs) ys
distinct_cross [] ys d = all_any (λ (y : ℕ). Unit {0}) (λ y. tt) ys
distinct_cross (x ∷ xs) ys d =
    all_zip (λ (y : ℕ). x ≢ y) (λ (y : ℕ). Avoids y xs) (λ (y : ℕ). Avoids y (x ∷ xs)) (λ y f a. ((λ e. f (sym e)), a)) ys
    (all_right (λ (y : ℕ). x ≢ y) xs ys d.0) (distinct_cross xs ys d.1)

-- And back.
distinct_join : (xs ys : List ℕ) → Distinct xs → Distinct ys → All (λ (x : ℕ). Avoids x ys) xs → Distinct (xs ++ ys)
distinct_join [] ys d e a = e
distinct_join (x ∷ xs) ys d e a = (all_append (λ (y : ℕ). x ≢ y) xs ys d.0 a.0, distinct_join xs ys d.1 e a.1)

-- The order of two lists does not matter.
pub distinct_swap : (xs ys : List ℕ) → Distinct (xs ++ ys) → Distinct (ys ++ xs)
distinct_swap xs ys d = distinct_join ys xs (distinct_right xs ys d) (distinct_left xs ys d) (distinct_cross xs ys d)
