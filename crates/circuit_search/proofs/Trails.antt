-- The depth-first search that never takes a mark back: a transition given up cannot reach the goal past the trail.
use mathlib.Core.Path.{◌≡◌, ap, refl, sym, ◌∙◌, subst}
use mathlib.Core.Logic.{◌≢◌, ◌⊎◌, inl, inr}
use mathlib.Core.List.{List, [], ◌++◌, ◌∷◌, append_assoc, append-nil}
use Prim.Native.Nat.{◌<◌, ◌≤◌, ℕ}
use native.Mathlib.Omega.{arith}
use native.Mathlib.Decide.{dec_lt, ℕ_discrete}
use Rattle.marked.specs.Lists.{All, Avoids, Distinct}
use Rattle.marked.specs.Net.{Net, Walk, go, stop}
use Rattle.marked.specs.Circuits.{froms}
use Rattle.marked.specs.Order.{Before}
use Rattle.marked.specs.Order.Before.{later, lower}
use Rattle.marked.proofs.Entries.{all_append, all_map, all_right, all_zip, distinct_cross, distinct_right, distinct_swap}
use Rattle.marked.proofs.Walks.{ends_same, froms_append, join, part, rest, starts, stays}
use Rattle.marked.proofs.Sizes.{walk_places}
use Rattle.circuit_search.specs.helpers.Ways.{Best, Cut, First, Rival, Search, Trail}
use Rattle.circuit_search.specs.helpers.Ways.Trail.{here, on}

before_more : {ts qs : List ℕ} (us : List ℕ) → Before ts qs → Before (ts ++ us) qs
before_more us (lower h) = lower h
before_more us (later b) = later (before_more us b)

before_at : {p q : ℕ} (ts us r : List ℕ) → p < q → Before (ts ++ (p ∷ us)) (ts ++ (q ∷ r))
before_at [] us r h = lower h
before_at (t ∷ ts) us r h = later (before_at ts us r h)

module _ {g : Net} {T : ℕ → Type 0} {root goal : ℕ} {M N : ℕ → ℕ} where
  trail_walk : {x : ℕ} {ts : List ℕ} → Trail g T root goal M N x ts → Walk g root x ts
  trail_walk here = stop
  trail_walk (on {x = x} q t h k e b m n) = let w : Walk g x (g.dst q) (q ∷ []) = rw (← e) (go q h stop) in join (trail_walk t) w

  trail_tight : {x : ℕ} {ts : List ℕ} → Trail g T root goal M N x ts → All T ts
  trail_tight here = tt
  trail_tight (on {ts = ts} q t h k e b m n) = all_append T ts (q ∷ []) (trail_tight t) (k, tt)

  trail_best : {x : ℕ} {ts : List ℕ} → Trail g T root goal M N x ts → Best g T root goal ts
  trail_best here = λ qs r. inl (qs, refl)
  trail_best (on q t h k e b m n) = b

module _ {g : Net} {T : ℕ → Type 0} {root goal : ℕ} {M N A : ℕ → ℕ} {x : ℕ} {ts : List ℕ} (s : Search g T root goal M N A x ts) where
  -- from a marked transition no way leads to the goal past the trail
  lost : {v : ℕ} {ps : List ℕ} → Walk g v goal ps → M v ≢ 0 → All T ps → All (λ (u : ℕ). Avoids u (x ∷ froms g ts)) (froms g ps) → ⊥
  lost stop n t a = n s.free
  lost (go p h w) n t a =
      let e : g.places ≤ A (g.src p) = s.dead (g.src p) n a.0.1 a.0.0 in
      lost w (s.tried p h t.0 (omega arith)) t.1 a.1

  not_goal : x ≢ goal
  not_goal e = s.stands (ap M e ∙ s.free)

  -- a rival that begins with the trail goes on with no place below the next one
  module _ (q : ℕ) (next : A x ≡ q) where
    rest_on : (us : List ℕ) → Rival g T root goal (ts ++ us) → ((rest : List ℕ) × (ts ++ us ≡ (ts ++ (q ∷ [])) ++ rest)) ⊎ Before (ts ++ (q ∷ [])) (ts ++ us)
    rest_on [] r =
        let t = part ts [] r.walk in
        absurd (not_goal (ends_same (trail_walk s.trail) t.1 ∙ stays t.2))
    rest_on (c ∷ us) r = at (dec_lt c q) (dec_lt q c)
      where
        begins : Walk g x goal (c ∷ us)
        begins = let t = part ts (c ∷ us) r.walk in let e : t.0 ≡ x = ends_same t.1 (trail_walk s.trail) in subst (λ (z : ℕ). Walk g z goal (c ∷ us)) e t.2

        apart : Distinct (froms g ts ++ (g.src c ∷ froms g us))
        apart = rw (froms_append g ts (c ∷ us)) at r.simple.1

        past : All (λ (u : ℕ). Avoids u (x ∷ froms g ts)) (froms g us)
        past =
            let h = (distinct_cross (froms g ts) (g.src c ∷ froms g us) apart).1 in
            let k : Avoids (g.src c) (froms g us) = (distinct_right (froms g ts) (g.src c ∷ froms g us) apart).0 in
            all_zip (λ (u : ℕ). Avoids u (froms g ts)) (λ (u : ℕ). g.src c ≢ u) (λ (u : ℕ). Avoids u (x ∷ froms g ts)) (λ u y z. ((λ e. z (starts begins ∙ sym e)), y)) (froms g us) h k

        at : Dec (c < q) → Dec (q < c) → ((rest : List ℕ) × (ts ++ (c ∷ us) ≡ (ts ++ (q ∷ [])) ++ rest)) ⊎ Before (ts ++ (q ∷ [])) (ts ++ (c ∷ us))
        at (yes h) d =
            let t = all_right T ts (c ∷ us) r.tight in
            let k : c < A (g.src c) = rw (starts begins) (omega arith) in
            absurd (lost (rest begins) (s.tried c (walk_places begins).0 t.0 k) t.1 past)
        at (no h) (yes k) = inr (before_at ts [] us k)
        at (no h) (no k) =
            let e : c ≡ q = omega arith in
            inl (us, rw (e, append_assoc ts (q ∷ []) us))

    pub best_on : Best g T root goal (ts ++ (q ∷ []))
    best_on qs r = at (trail_best s.trail qs r)
      where
        at : ((us : List ℕ) × (qs ≡ ts ++ us)) ⊎ Before ts qs → ((rest : List ℕ) × (qs ≡ (ts ++ (q ∷ [])) ++ rest)) ⊎ Before (ts ++ (q ∷ [])) qs
        at (inl u) = let z : Rival g T root goal (ts ++ u.0) = rw u.1 at r in rw u.1 (rest_on u.0 z)
        at (inr b) = inr (before_more (q ∷ []) b)

  -- no way at all, where the trail is given up
  module _ (stuck : A x ≡ g.places) (first : x ≡ root) where
    shut : {v : ℕ} {ps : List ℕ} → Walk g v goal ps → M v ≢ 0 → All T ps → ts ≡ [] → ⊥
    shut stop n t e = n s.free
    shut (go p h w) n t e =
        let z : g.places ≤ A (g.src p) = at (ℕ_discrete (g.src p) x) in
        shut w (s.tried p h t.0 (omega arith)) t.1 e
      where
        at : Dec (g.src p ≡ x) → g.places ≤ A (g.src p)
        at (yes d) = omega (arith, ap A d, stuck)
        at (no d) = let a : Avoids (g.src p) (froms g ts) = rw e tt in s.dead (g.src p) n a d

    empty : {us : List ℕ} {y : ℕ} → Walk g root y us → Avoids x (froms g us) → us ≡ []
    empty {us = []} w a = refl
    empty {us = p ∷ us} w a = absurd (a.0 (first ∙ sym (starts w)))

    pub none_left : Cut g T root goal
    none_left qs r = shut r.walk s.begun r.tight (empty (trail_walk s.trail) s.simple.0)

  -- the way is found
  module _ (q : ℕ) (next : A x ≡ q) (inside : q < g.places) (tight : T q) (leaves : g.src q ≡ x) where
    froms_last : froms g (ts ++ (q ∷ [])) ≡ froms g ts ++ (x ∷ [])
    froms_last = rw (froms_append g ts (q ∷ []), leaves)

    pub marked_last : All (λ (v : ℕ). M v ≢ 0) (froms g (ts ++ (q ∷ [])))
    marked_last = rw froms_last (all_append (λ (v : ℕ). M v ≢ 0) (froms g ts) (x ∷ []) s.marks (s.stands, tt))

    pub distinct_last : Distinct (froms g (ts ++ (q ∷ [])))
    distinct_last = rw froms_last (distinct_swap (x ∷ []) (froms g ts) s.simple)

    pub new_to : (y : ℕ) → M y ≡ 0 → Avoids y (froms g (ts ++ (q ∷ [])))
    new_to y e = all_map (λ v n d. n (sym (ap M d) ∙ e)) (froms g (ts ++ (q ∷ []))) marked_last

    walk_last : Walk g root (g.dst q) (ts ++ (q ∷ []))
    walk_last = let w : Walk g x (g.dst q) (q ∷ []) = rw (← leaves) (go q inside stop) in join (trail_walk s.trail) w

    pub found : g.dst q ≡ goal → First g T root goal (ts ++ (q ∷ []))
    found e = record {
      rival = record {
        walk = subst (λ (z : ℕ). Walk g root z (ts ++ (q ∷ []))) e walk_last;
        tight = all_append T ts (q ∷ []) (trail_tight s.trail) (tight, tt);
        simple = (new_to goal s.free, distinct_last);
      };
      first = λ qs r. at qs r (best_on q next qs r);
    }
      where
        over : (us : List ℕ) → Rival g T root goal ((ts ++ (q ∷ [])) ++ us) → us ≡ []
        over [] r = refl
        over (c ∷ us) r =
            let t = part (ts ++ (q ∷ [])) (c ∷ us) r.walk in
            let z : t.0 ≡ goal = ends_same t.1 walk_last ∙ e in
            let a : Avoids goal (froms g (ts ++ (q ∷ [])) ++ (g.src c ∷ froms g us)) = rw (froms_append g (ts ++ (q ∷ [])) (c ∷ us)) at r.simple.0 in
            absurd ((all_right (λ (y : ℕ). goal ≢ y) (froms g (ts ++ (q ∷ []))) (g.src c ∷ froms g us) a).0 (sym (starts t.2 ∙ z)))

        at : (qs : List ℕ) → Rival g T root goal qs → ((rest : List ℕ) × (qs ≡ (ts ++ (q ∷ [])) ++ rest)) ⊎ Before (ts ++ (q ∷ [])) qs → (ts ++ (q ∷ []) ≡ qs) ⊎ Before (ts ++ (q ∷ [])) qs
        at qs r (inr b) = inr b
        at qs r (inl u) =
            let z : Rival g T root goal ((ts ++ (q ∷ [])) ++ u.0) = rw u.1 at r in
            let o : qs ≡ (ts ++ (q ∷ [])) ++ [] = u.1 ∙ ap (λ (l : List ℕ). (ts ++ (q ∷ [])) ++ l) (over u.0 z) in
            inl (sym (o ∙ append-nil (ts ++ (q ∷ []))))
