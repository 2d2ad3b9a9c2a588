-- Whether hops lead from one number to another, decided by collecting what is reached: it computes, for graphs that are written out.
use mathlib.Core.Path.{◌≡◌, sym, subst}
use mathlib.Core.Bool.{Bool, true, false, not, ◌&&◌, ◌||◌}
use mathlib.Core.Logic.{◌⊎◌, inl, inr, ⊎_elim}
use mathlib.Core.List.{List, [], ◌∷◌}
use Prim.Native.Nat.{◌+◌, ◌<◌, suc, zero, ℕ}
use native.Mathlib.Decide.{ℕ_discrete}
use native.Mathlib.Omega.{arith}
use lib.Dec.{T, eqb, eqb_refl, eqb→eq}
use lib.ListN.{length}
use Rattle.marked.specs.Lists.{All, Avoids, Distinct}
use Rattle.marked.proofs.Pigeonhole.{pigeonhole}

-- From t, one hop or more lead to a number. Hop p, of k hops, leads from `from p` to `to p`.
pub data Way (k : ℕ) (from to : ℕ → ℕ) (t : ℕ) : ℕ → Type 0 where
  one : (p : ℕ) → p < k → from p ≡ t → Way k from to t (to p)
  more : (p : ℕ) → p < k → Way k from to t (from p) → Way k from to t (to p)

-- Whether x stands in a list.
abbrev has : ℕ → List ℕ → Bool
has x [] = false
has x (y ∷ ys) = eqb x y || has x ys

-- A Boolean as a test.
abbrev pub is? : (b : Bool) → Dec (T b)
is? true = yes tt
is? false = no (λ h. h)

pub either : (a b : Bool) → T (a || b) → T a ⊎ T b
either true b h = inl tt
either false b h = inr h

left : (a b : Bool) → T a → T (a || b)
left true b h = tt
left false b h = absurd h

right : (a b : Bool) → T b → T (a || b)
right true b h = tt
right false b h = h

pub has_all : (P : ℕ → Type 0) (x : ℕ) (xs : List ℕ) → All P xs → T (has x xs) → P x
has_all P x [] a h = absurd h
has_all P x (y ∷ ys) a h =
    ⊎_elim (λ e. subst P (sym (eqb→eq x y e)) a.0) (λ r. has_all P x ys a.1 r) (either (eqb x y) (has x ys) h)

pub has_not : (x : ℕ) (xs : List ℕ) → (T (has x xs) → ⊥) → Avoids x xs
has_not x [] h = tt
has_not x (y ∷ ys) h = ((λ e. h (left (eqb x y) (has x ys) (rw e (eqb_refl y)))), has_not x ys (λ r. h (right (eqb x y) (has x ys) r)))

-- A number below j that passes the test, or none does.
abbrev Sought : (ℕ → Bool) → ℕ → Type 0
Sought test j = ((p : ℕ) × (p < j) × T (test p)) ⊎ ((p : ℕ) → p < j → T (test p) → ⊥)

abbrev sought : (test : ℕ → Bool) (j : ℕ) → Dec (T (test j)) → Sought test j → Sought test (suc j)
sought test j (yes h) r = inl (j, omega arith, h)
sought test j (no h) (inl s) = inl (s.0, omega (arith, s.1), s.2)
sought test j (no h) (inr a) = inr (λ p l x. last p l x (ℕ_discrete p j))
  where
    last : (p : ℕ) → p < suc j → T (test p) → Dec (p ≡ j) → ⊥
    last p l x (yes e) = h (rw e at x)
    last p l x (no f) = a p (omega arith) x

abbrev pub seek : (test : ℕ → Bool) (j : ℕ) → Sought test j
seek test zero = inr (λ p l x. absurd (omega arith))
seek test (suc j) = sought test j (is? (test j)) (seek test j)

module _ (k n : ℕ) (from to : ℕ → ℕ) (t : ℕ) (bound : (p : ℕ) → p < k → to p < n) where
  -- What has been reached so far.
  pub record Got : Type 0 where
    pub list : List ℕ
    pub ways : All (Way k from to t) list
    pub below : All (◌< n) list
    pub distinct : Distinct list

  -- Hop p leads from t or from what is reached to something new.
  abbrev crosses : List ℕ → ℕ → Bool
  crosses xs p = (eqb (from p) t || has (from p) xs) && not (has (to p) xs)

  pub reached : (xs : List ℕ) (p : ℕ) → T (crosses xs p) → T (eqb (from p) t || has (from p) xs) × (T (has (to p) xs) → ⊥)
  reached xs p h = split (eqb (from p) t || has (from p) xs) (has (to p) xs) h
    where
      split : (a b : Bool) → T (a && not b) → T a × (T b → ⊥)
      split true true h = absurd h
      split true false h = (tt, λ x. x)
      split false b h = absurd h

  covered : (xs : List ℕ) (p : ℕ) → (T (crosses xs p) → ⊥) → T (eqb (from p) t || has (from p) xs) → T (has (to p) xs)
  covered xs p h a = cover (eqb (from p) t || has (from p) xs) (has (to p) xs) h a
    where
      cover : (a b : Bool) → (T (a && not b) → ⊥) → T a → T b
      cover true true h a = tt
      cover true false h a = h tt
      cover false b h a = absurd a

  abbrev add : (g : Got) (p : ℕ) → p < k → T (crosses g.list p) → Got
  add g p l h =
      let r = reached g.list p h in
      record {
        list = to p ∷ g.list;
        ways = (way (either (eqb (from p) t) (has (from p) g.list) r.0), g.ways);
        below = (bound p l, g.below);
        distinct = (has_not (to p) g.list r.1, g.distinct);
      }
    where
      way : T (eqb (from p) t) ⊎ T (has (from p) g.list) → Way k from to t (to p)
      way (inl e) = one p l (eqb→eq (from p) t e)
      way (inr r) = more p l (has_all (Way k from to t) (from p) g.list g.ways r)

  -- All that is reached: every hop from it stays in it.
  pub record All_got : Type 0 where
    pub got : Got
    pub closed : (p : ℕ) → p < k → T (crosses got.list p) → ⊥

  abbrev next : (fuel : ℕ) (g : Got) → n < length g.list + suc fuel → ((x : Got) → n < length x.list + fuel → All_got) → Sought (crosses g.list) k → All_got
  next fuel g h rest (inl s) = rest (add g s.0 s.1 s.2) (omega arith)
  next fuel g h rest (inr c) = record { got = g; closed = c }

  abbrev grow : (fuel : ℕ) (g : Got) → n < length g.list + fuel → All_got
  grow zero g h = absurd (omega (arith, pigeonhole n g.list g.below g.distinct))
  grow (suc fuel) g h = next fuel g h (λ x l. grow fuel x l) (seek (crosses g.list) k)

  abbrev all_got : All_got
  all_got = grow (suc n) (record { list = []; ways = tt; below = tt; distinct = tt }) (omega arith)

  pub way_has : (c : All_got) {u : ℕ} → Way k from to t u → T (has u c.got.list)
  way_has c (one p l e) = covered c.got.list p (c.closed p l) (left (eqb (from p) t) (has (from p) c.got.list) (rw e (eqb_refl t)))
  way_has c (more p l w) = covered c.got.list p (c.closed p l) (right (eqb (from p) t) (has (from p) c.got.list) (way_has c w))

  abbrev told : (c : All_got) (u : ℕ) → Dec (T (has u c.got.list)) → Dec (Way k from to t u)
  told c u (yes h) = yes (has_all (Way k from to t) u c.got.list c.got.ways h)
  told c u (no h) = no (λ w. h (way_has c w))

  -- Whether hops lead from t to u.
  abbrev pub way? : (u : ℕ) → Dec (Way k from to t u)
  way? u = told all_got u (is? (has u all_got.got.list))
