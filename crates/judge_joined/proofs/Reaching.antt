-- Whatever order the edges come in, what is marked is joined, and no mark is lost.
use mathlib.Core.Path.{◌≡◌, ap, refl, sym, ◌∙◌, subst}
use mathlib.Core.Logic.{◌≢◌}
use mathlib.Core.Bool.{Bool, beq, true, false}
use mathlib.Core.List.{List, [], ◌∷◌}
use Prim.Native.Nat.{◌+◌, ◌<◌, ◌≤◌, suc, zero, ℕ}
use native.Mathlib.Omega.{arith}
use native.Mathlib.Decide.{ℕ_discrete}
use borrow.Author.Count.{below_more}
use lib.ListN.{get_or, length, length-set, replicate, set}
use lib.Seq.{get_or-set_other}
use Rattle.marked.specs.Net.{at}
use Rattle.net.specs.Plan.{Joined, against, along, source, wires}
use Rattle.judge_joined.specs.helpers.Spreading.{Even, Marks, Met, Passed, Reached, Spread, missing}

missing_set : (xs : List Bool) (i : ℕ) → missing (set xs i true) ≤ missing xs
unfolding missing
missing_set [] i = omega arith
missing_set (false ∷ xs) zero = omega arith
missing_set (false ∷ xs) (suc i) = omega (arith, missing_set xs i)
missing_set (true ∷ xs) zero = omega arith
missing_set (true ∷ xs) (suc i) = omega (arith, missing_set xs i)

missing_falls : (xs : List Bool) (i : ℕ) → i < length xs → get_or xs i false ≡ false → missing (set xs i true) < missing xs
unfolding missing
missing_falls [] i l e = omega arith
missing_falls (false ∷ xs) zero l e = omega arith
missing_falls (false ∷ xs) (suc i) l e = omega (arith, missing_falls xs i (omega arith) e)
missing_falls (true ∷ xs) zero l e = cc
missing_falls (true ∷ xs) (suc i) l e = omega (arith, missing_falls xs i (omega arith) e)

-- One mark more: the others stay,
set_met : (xs : List Bool) (i n : ℕ) → Met xs n → Met (set xs i true) n
set_met [] i n h = h
set_met (x ∷ xs) zero zero h = refl
set_met (x ∷ xs) zero (suc n) h = h
set_met (x ∷ xs) (suc i) zero h = h
set_met (x ∷ xs) (suc i) (suc n) h = set_met xs i n h

-- and it is the only new one.
set_sound : (P : ℕ → Type 0) (xs : List Bool) (i : ℕ) → P i → ((n : ℕ) → Met xs n → P n) → (n : ℕ) → Met (set xs i true) n → P n
set_sound P xs i p f n h = elim (ℕ_discrete n i) [ yes e ↦ subst P (sym e) p | no d ↦ f n (rw (get_or-set_other xs i n true false d) at h) ]

-- At the start none is marked.
unmet : (k n : ℕ) → get_or (replicate k false) n false ≡ false
unmet zero n = refl
unmet (suc k) zero = refl
unmet (suc k) (suc n) = unmet k n

differ : (a b : Bool) → beq a b ≡ false → a ≡ b → ⊥
differ true true h e = cc
differ true false h e = cc
differ false true h e = cc
differ false false h e = cc

module _ {e : ℕ} {from to : List ℕ} where
  reached_mark : {seen : List Bool} (i : ℕ) → Joined (wires 0 e from to) i → Reached e from to seen → Reached e from to (set seen i true)
  reached_mark {seen} i j h =
      record { long = length-set seen i true ∙ h.long; start = set_met seen i 0 h.start; sound = set_sound (Joined (wires 0 e from to)) seen i j h.sound }

  pub reached_start : Reached e from to (set (replicate 42 false) 0 true)
  reached_start = record { long = refl; start = refl; sound = set_sound (Joined (wires 0 e from to)) (replicate 42 false) 0 source (λ n h. let u = unmet 42 n in cc) }

  -- An edge that is not even has both ends joined, and one end unmarked.
  module _ {seen : List Bool} {k : ℕ} (h : Reached e from to seen) (inside : k < e) (odd : Even from to seen k → ⊥) where
    ends_joined : Joined (wires 0 e from to) (at from k) × Joined (wires 0 e from to) (at to k)
    ends_joined = go (get_or seen (at from k) false) (get_or seen (at to k) false) refl refl
      where
        go : (a b : Bool) → get_or seen (at from k) false ≡ a → get_or seen (at to k) false ≡ b → Joined (wires 0 e from to) (at from k) × Joined (wires 0 e from to) (at to k)
        go true b p q = let j = h.sound (at from k) p in (j, along k inside j)
        go false true p q = let j = h.sound (at to k) q in (against k inside j, j)
        go false false p q = absurd (odd (p ∙ sym q))

    reached_more : Reached e from to (set (set seen (at from k) true) (at to k) true)
    reached_more = reached_mark (at to k) ends_joined.1 (reached_mark (at from k) ends_joined.0 h)

    falls_more : at from k < 42 → at to k < 42 → missing (set (set seen (at from k) true) (at to k) true) < missing seen
    falls_more l m = go (get_or seen (at from k) false) (get_or seen (at to k) false) refl refl
      where
        go : (a b : Bool) → get_or seen (at from k) false ≡ a → get_or seen (at to k) false ≡ b → missing (set (set seen (at from k) true) (at to k) true) < missing seen
        go false b p q = omega (arith, missing_set (set seen (at from k) true) (at to k), missing_falls seen (at from k) (rw h.long l) p)
        go true false p q =
            let o : at to k ≢ at from k = λ r. cc (r, p, q) in
            omega (arith, missing_set seen (at from k), missing_falls (set seen (at from k) true) (at to k) (rw (length-set, h.long) m) (get_or-set_other seen (at from k) (at to k) true false o ∙ q))
        go true true p q = absurd (odd (p ∙ sym q))

  -- Edge k leaves the marks as they are where it is even,
  pub spread_still :
      {seen : List Bool} {k a b : ℕ} (was : Bool) → Reached e from to seen → get_or seen a false ≡ get_or seen b false → a ≡ at from k → b ≡ at to k
      → Spread e from to k seen was seen was
  spread_still {seen} was h even p q =
      let same : Even from to seen _ = sym (ap (λ (x : ℕ). get_or seen x false) p) ∙ even ∙ ap (λ (x : ℕ). get_or seen x false) q in
      record { reached = h; fewer = omega arith; grows = λ r s. cc; still = λ r. (r, refl, same) }

  -- and marks its ends where it is not.
  pub spread_more :
      {seen : List Bool} {k a b : ℕ} (was : Bool) → Reached e from to seen → k < e → beq (get_or seen a false) (get_or seen b false) ≡ false →
      a ≡ at from k → b ≡ at to k → at from k < 42 → at to k < 42 → Spread e from to k seen was (set (set seen a true) b true) true
  spread_more {seen} {k} {a} {b} was h inside odd p q l m =
      let odd' : Even from to seen k → ⊥ = λ r. differ (get_or seen a false) (get_or seen b false) odd (cc (p, q, r)) in
      rw (p, q)
      (record {
        reached = reached_more h inside odd';
        fewer = omega (arith, falls_more h inside odd' l m);
        grows = λ u v. falls_more h inside odd' l m;
        still = λ u. cc;
      })

  -- A pass, edge after edge.
  pub passed_none : {seen : List Bool} → Reached e from to seen → Passed e from to 0 seen seen false
  passed_none h = record { reached = h; grows = λ p. cc; still = λ p. (refl, λ j l. absurd (omega arith)) }

  pub passed_more : {k : ℕ} {old new next : List Bool} {was now : Bool} → Passed e from to k old new was → Spread e from to k new was next now → Passed e from to (k + 1) old next now
  passed_more {k} {old} {new} {next} {was} {now} h s = record { reached = s.reached; grows = grows was refl; still = still }
    where
      grows : (b : Bool) → was ≡ b → now ≡ true → missing next < missing old
      grows true p q = omega (arith, h.grows p, s.fewer)
      grows false p q = omega (arith, s.grows p q, ap missing (h.still p).0)

      still : now ≡ false → (next ≡ old) × ((j : ℕ) → j < k + 1 → Even from to next j)
      still q =
          let r = s.still q in
          let o = h.still r.0 in
          (r.1 ∙ o.0, below_more (λ j. Even from to next j) k (λ j l. subst (λ (m : List Bool). Even from to m j) (sym r.1) (o.1 j l)) r.2)

  -- Once every edge is even, whatever is joined to the source is marked.
  pub marked_all : {old new : List Bool} {now : Bool} → now ≡ false → Passed e from to e old new now → Marks e from to new
  marked_all {new} p h = record { sound = h.reached.sound; whole = whole }
    where
      level : (k : ℕ) → k < e → Even from to new k
      level = (h.still p).1

      whole : (n : ℕ) → Joined (wires 0 e from to) n → Met new n
      whole n source = h.reached.start
      whole n (along k l j) = sym (level k l) ∙ whole (at from k) j
      whole n (against k l j) = level k l ∙ whole (at to k) j
