-- Searches: of the numbers below a bound, and of the lists of such numbers.
use mathlib.Core.Path.{◌≡◌}
use mathlib.Core.Logic.{◌⊎◌, inl, inr}
use mathlib.Core.List.{List, [], ◌∷◌}
use Prim.Native.Nat.{◌<◌, ◌≤◌, suc, zero, ℕ}
use native.Mathlib.Decide.{dec_lt, ℕ_discrete}
use native.Mathlib.Omega.{arith}
use lib.ListN.{length}
use Rattle.marked.specs.Lists.{All}

-- Of two numbers the second is above or not.
pub above : (x y : ℕ) → (x < y) ⊎ (y ≤ x)
above x y = at (dec_lt x y)
  where
    at : Dec (x < y) → (x < y) ⊎ (y ≤ x)
    at (yes h) = inl h
    at (no h) = inr (omega arith)

-- What is P or Q everywhere is P at some number below n, or Q at each.
pub find : (P Q : ℕ → Type 0) → ((v : ℕ) → P v ⊎ Q v) → (n : ℕ) → ((v : ℕ) × (v < n) × P v) ⊎ ((v : ℕ) → v < n → Q v)
find P Q t zero = inr (λ v h. absurd (omega arith))
find P Q t (suc n) = at (t n) (find P Q t n)
  where
    last : ((v : ℕ) → v < n → Q v) → Q n → (v : ℕ) → v < suc n → Q v
    last a q v h = pick (ℕ_discrete v n)
      where
        pick : Dec (v ≡ n) → Q v
        pick (yes e) = rw e q
        pick (no f) = a v (omega arith)

    at : P n ⊎ Q n → ((v : ℕ) × (v < n) × P v) ⊎ ((v : ℕ) → v < n → Q v) → ((v : ℕ) × (v < suc n) × P v) ⊎ ((v : ℕ) → v < suc n → Q v)
    at r (inl s) = inl (s.0, omega (arith, s.1), s.2)
    at (inl p) (inr a) = inl (n, omega arith, p)
    at (inr q) (inr a) = inr (last a q)

-- What holds somewhere and can be tested holds at a least number.
pub first : (P : ℕ → Type 0) → ((v : ℕ) → Dec (P v)) → (n : ℕ) → P n → (v : ℕ) × P v × ((w : ℕ) → P w → v ≤ w)
first P t n p = by (suc n) n (omega arith) p
  where
    tell : (v : ℕ) → Dec (P v) → P v ⊎ (¬ P v)
    tell v (yes p) = inl p
    tell v (no f) = inr f

    by : (k n : ℕ) → n < k → P n → (v : ℕ) × P v × ((w : ℕ) → P w → v ≤ w)
    by zero n h p = absurd (omega arith)
    by (suc k) n h p = at (find P (λ (v : ℕ). ¬ P v) (λ v. tell v (t v)) n) (by k)
      where
        least : ((w : ℕ) → w < n → ¬ P w) → (w : ℕ) → P w → (w < n) ⊎ (n ≤ w) → n ≤ w
        least f w q (inl l) = absurd (f w l q)
        least f w q (inr l) = l

        at : ((v : ℕ) × (v < n) × P v) ⊎ ((w : ℕ) → w < n → ¬ P w) → ((v : ℕ) → v < k → P v → (v : ℕ) × P v × ((w : ℕ) → P w → v ≤ w)) → (v : ℕ) × P v × ((w : ℕ) → P w → v ≤ w)
        at (inl r) rest = rest r.0 (omega (arith, r.1)) r.2
        at (inr f) rest = (n, p, λ w q. least f w q (above w n))

-- Where each list gives P or is Q, P is found or every list of at most l entries below k is Q.
pub find_list : (k : ℕ) (P : Type 0) (Q : List ℕ → Type 0) → ((ps : List ℕ) → P ⊎ Q ps) → (l : ℕ) → P ⊎ ((ps : List ℕ) → length ps ≤ l → All (◌< k) ps → Q ps)
find_list k P Q t zero = at (t [])
  where
    none : Q [] → (ps : List ℕ) → length ps ≤ 0 → All (◌< k) ps → Q ps
    none q [] h a = q
    none q (p ∷ ps) h a = absurd (omega arith)

    at : P ⊎ Q [] → P ⊎ ((ps : List ℕ) → length ps ≤ 0 → All (◌< k) ps → Q ps)
    at (inl p) = inl p
    at (inr q) = inr (none q)
find_list k P Q t (suc l) =
    at (t []) (find (λ (v : ℕ). P) (λ (v : ℕ). (ps : List ℕ) → length ps ≤ l → All (◌< k) ps → Q (v ∷ ps)) (λ v. find_list k P (λ ps. Q (v ∷ ps)) (λ ps. t (v ∷ ps)) l) k)
  where
    each : Q [] → ((v : ℕ) → v < k → (ps : List ℕ) → length ps ≤ l → All (◌< k) ps → Q (v ∷ ps)) → (ps : List ℕ) → length ps ≤ suc l → All (◌< k) ps → Q ps
    each q r [] h a = q
    each q r (v ∷ ps) h a = r v a.0 ps (omega arith) a.1

    at : P ⊎ Q [] → ((v : ℕ) × (v < k) × P) ⊎ ((v : ℕ) → v < k → (ps : List ℕ) → length ps ≤ l → All (◌< k) ps → Q (v ∷ ps))
        → P ⊎ ((ps : List ℕ) → length ps ≤ suc l → All (◌< k) ps → Q ps)
    at (inl p) r = inl p
    at (inr q) (inl s) = inl s.2
    at (inr q) (inr r) = inr (each q r)
