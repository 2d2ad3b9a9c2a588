-- The moves of the search: past a place, along it, to the goal, and back.
use mathlib.Core.Path.{◌≡◌, ap, refl, sym, ◌∙◌, subst}
use mathlib.Core.Logic.{◌≢◌}
use mathlib.Core.List.{List, [], ◌++◌, ◌∷◌}
use Prim.Native.Nat.{◌+◌, ◌<◌, ◌≤◌, ℕ}
use native.Mathlib.Omega.{arith}
use native.Mathlib.Decide.{dec_lt, ℕ_discrete}
use Rattle.marked.specs.Lists.{All, Avoids, Distinct}
use Rattle.marked.specs.Net.{Net}
use Rattle.marked.specs.Circuits.{froms}
use Rattle.marked.proofs.Entries.{all_append, all_left, all_map, all_right, distinct_swap}
use Rattle.marked.proofs.Walks.{froms_append}
use Rattle.circuit_tight.specs.helpers.Lists.{Next}
use Rattle.circuit_search.specs.helpers.Ways.{FirstNoted, Search, Trace, Trail}
use Rattle.circuit_search.specs.helpers.Ways.Trail.{here, on}
use Rattle.circuit_search.specs.helpers.Ways.Trace.{step}
use Rattle.circuit_search.proofs.Trails.{best_on, distinct_last, found, marked_last, new_to}
use Rattle.circuit_search.proofs.Keeping.{trail_keep, trail_trace}

-- B is A with v at i
pub record Put (A B : ℕ → ℕ) (i v : ℕ) : Type 0 where
  pub new : B i ≡ v
  pub same : (u : ℕ) → u ≢ i → B u ≡ A u

-- back to the transition before
pub record Popped (g : Net) (T : ℕ → Type 0) (root goal : ℕ) (M N A : ℕ → ℕ) (x : ℕ) (ts : List ℕ) : Type 0 where
  pub place : ℕ
  pub rest : List ℕ
  pub inside : place < g.places
  pub note : N x ≡ place
  pub parts : ts ≡ rest ++ (place ∷ [])
  pub search : Search g T root goal M N A (g.src place) rest

module _ {g : Net} {T : ℕ → Type 0} {root goal : ℕ} where
  module _ {M N A : ℕ → ℕ} {x : ℕ} {ts : List ℕ} (s : Search g T root goal M N A x ts) where
    module _ {B : ℕ → ℕ} {q to : ℕ} (next : A x ≡ q) (put : Put A B x to) (after : Next g T x (q + 1) to) where
      tried_on : {M2 : ℕ → ℕ} → ((v : ℕ) → M v ≢ 0 → M2 v ≢ 0) → (T q → g.src q ≡ x → M2 (g.dst q) ≢ 0) → (p : ℕ) → p < g.places → T p → p < B (g.src p) → M2 (g.dst p) ≢ 0
      tried_on {M2} a f p h t l = at (ℕ_discrete (g.src p) x)
        where
          this : g.src p ≡ x → Dec (p ≡ q) → M2 (g.dst p) ≢ 0
          this d (yes e) = let tq : T q = rw e at t in let dq : g.src q ≡ x = sym (ap g.src e) ∙ d in subst (λ (z : ℕ). M2 (g.dst z) ≢ 0) (sym e) (f tq dq)
          this d (no e) =
              let i : B (g.src p) ≡ to = ap B d ∙ put.new in
              let j : A (g.src p) ≡ q = ap A d ∙ next in
              elim (dec_lt p q) [ yes k ↦ a (g.dst p) (s.tried p h t (omega arith)) | no k ↦ absurd (after.none p (omega arith) (omega arith) t d) ]

          at : Dec (g.src p ≡ x) → M2 (g.dst p) ≢ 0
          at (yes d) = this d (ℕ_discrete p q)
          at (no d) = a (g.dst p) (s.tried p h t (omega (arith, put.same (g.src p) d)))

      listed_on : (v : ℕ) → v < g.transitions → B v < g.places → T (B v) × (g.src (B v) ≡ v)
      listed_on v h l = at (ℕ_discrete v x)
        where
          at : Dec (v ≡ x) → T (B v) × (g.src (B v) ≡ v)
          at (yes e) = let i : B v ≡ to = ap B e ∙ put.new in let o = after.fits (omega arith) in rw i (o.1, o.2 ∙ sym e)
          at (no e) = let i = put.same v e in rw i (s.listed v h (omega arith))

      done_in : (v : ℕ) → g.places < B v → g.places < A v
      done_in v l = at (ℕ_discrete v x)
        where
          at : Dec (v ≡ x) → g.places < A v
          at (yes e) = absurd (omega (arith, ap B e, put.new, after.most))
          at (no e) = omega (arith, put.same v e)

      -- the next place leads nowhere new
      pub skip : (T q → g.src q ≡ x → M (g.dst q) ≢ 0) → Search g T root goal M N B x ts
      skip f = record {
        trail = s.trail;
        listed = listed_on;
        tried = tried_on (λ v n. n) f;
        dead = λ v n a d. omega (arith, put.same v d, s.dead v n a d);
        done = λ v l. s.done v (done_in v l);
        free = s.free;
        begun = s.begun;
        stands = s.stands;
        marks = s.marks;
        simple = s.simple;
      }

      -- the next place leads on
      module _ (inside : q < g.places) (tight : T q) (leaves : g.src q ≡ x) where
        pub push : {M2 N2 : ℕ → ℕ} → M (g.dst q) ≡ 0 → goal ≢ g.dst q → Put M M2 (g.dst q) 1 → Put N N2 (g.dst q) q → Search g T root goal M2 N2 B (g.dst q) (ts ++ (q ∷ []))
        push {M2} {N2} fresh other pm pn = record {
          trail = on q (trail_keep keeps notes s.trail) inside tight leaves (best_on s q next) here_marked pn.new;
          listed = listed_on;
          tried = tried_on keeps (λ t e. here_marked);
          dead = dead_on;
          done = done_on;
          free = pm.same goal other ∙ s.free;
          begun = keeps root s.begun;
          stands = here_marked;
          marks = all_map keeps (froms g (ts ++ (q ∷ []))) (marked_last s q next inside tight leaves);
          simple = (new_to s q next inside tight leaves (g.dst q) fresh, distinct_last s q next inside tight leaves);
        }
          where
            here_marked : M2 (g.dst q) ≢ 0
            here_marked e = omega (arith, pm.new)

            elsewhere : (v : ℕ) → M v ≢ 0 → v ≢ g.dst q
            elsewhere v n e = n (ap M e ∙ fresh)

            keeps : (v : ℕ) → M v ≢ 0 → M2 v ≢ 0
            keeps v n e = n (sym (pm.same v (elsewhere v n)) ∙ e)

            notes : (v : ℕ) → M v ≢ 0 → N2 v ≡ N v
            notes v n = pn.same v (elsewhere v n)

            dead_on : (v : ℕ) → M2 v ≢ 0 → Avoids v (froms g (ts ++ (q ∷ []))) → v ≢ g.dst q → g.places ≤ B v
            dead_on v n a d =
                let c : Avoids v (froms g ts ++ (g.src q ∷ [])) = rw (froms_append g ts (q ∷ [])) at a in
                let l = all_left (λ (y : ℕ). v ≢ y) (froms g ts) (g.src q ∷ []) c in
                let r = all_right (λ (y : ℕ). v ≢ y) (froms g ts) (g.src q ∷ []) c in
                let o : v ≢ x = λ e. r.0 (e ∙ sym leaves) in
                omega (arith, put.same v o, s.dead v (λ e. n (pm.same v d ∙ e)) l o)

            done_on : (v : ℕ) → g.places < B v → (M2 v ≢ 0) × Avoids v (g.dst q ∷ froms g (ts ++ (q ∷ [])))
            done_on v l =
                let o = s.done v (done_in v l) in
                let a : Avoids v (froms g (ts ++ (q ∷ []))) = rw (froms_append g ts (q ∷ []), leaves) (all_append (λ (y : ℕ). v ≢ y) (froms g ts) (x ∷ []) o.1.1 (o.1.0, tt)) in
                (keeps v o.0, (elsewhere v o.0, a))

        -- the next place leads to the goal
        pub reached : {N2 : ℕ → ℕ} → g.dst q ≡ goal → Put N N2 (g.dst q) q → FirstNoted g T root goal N2
        reached {N2} e pn =
            let r : Trace g T root goal N2 (g.src q) ts = rw leaves (trail_trace (λ v n. pn.same v (λ d. n (ap M (d ∙ e) ∙ s.free))) s.trail) in
            record {
              way = ts ++ (q ∷ []);
              first = found s q next inside tight leaves e;
              trace = subst (λ (z : ℕ). Trace g T root goal N2 z (ts ++ (q ∷ []))) e (step q r inside tight pn.new);
            }

  pub pop :
      {M N A B : ℕ → ℕ} {x : ℕ} {ts : List ℕ} → Trail g T root goal M N x ts → Search g T root goal M N A x ts → A x ≡ g.places → Put A B x (g.places + 1) → x ≢ root
      → Popped g T root goal M N B x ts
  pop here s e put f = absurd (f refl)
  pop {M} {N} {A} {B} (on {x = x} {ts = ts} q t h k l o m n) s e put f = record {
    place = q;
    rest = ts;
    inside = h;
    note = n;
    parts = refl;
    search = rw l back;
  }
    where
      marks : All (λ (v : ℕ). M v ≢ 0) (froms g ts ++ (x ∷ []))
      marks = let z = s.marks in rw (froms_append g ts (q ∷ []), l) at z

      single : Distinct (froms g ts ++ (x ∷ []))
      single = let z = s.simple.1 in rw (froms_append g ts (q ∷ []), l) at z

      tried : (p : ℕ) → p < g.places → T p → p < B (g.src p) → M (g.dst p) ≢ 0
      tried p i u b = at (ℕ_discrete (g.src p) (g.dst q))
        where
          at : Dec (g.src p ≡ g.dst q) → M (g.dst p) ≢ 0
          at (yes z) = s.tried p i u (omega (arith, ap A z))
          at (no z) = s.tried p i u (omega (arith, put.same (g.src p) z))

      dead : (v : ℕ) → M v ≢ 0 → Avoids v (froms g ts) → v ≢ x → g.places ≤ B v
      dead v n a d = at (ℕ_discrete v (g.dst q))
        where
          at : Dec (v ≡ g.dst q) → g.places ≤ B v
          at (yes z) = omega (arith, ap B z, put.new)
          at (no z) =
              let b = all_append (λ (y : ℕ). v ≢ y) (froms g ts) (x ∷ []) a (d, tt) in
              let c : Avoids v (froms g (ts ++ (q ∷ []))) = rw (froms_append g ts (q ∷ []), l) b in
              omega (arith, put.same v z, s.dead v n c z)

      off : (v : ℕ) → Avoids v (froms g (ts ++ (q ∷ []))) → Avoids v (x ∷ froms g ts)
      off v a =
          let c : Avoids v (froms g ts ++ (x ∷ [])) = rw (froms_append g ts (q ∷ []), l) at a in
          ((all_right (λ (y : ℕ). v ≢ y) (froms g ts) (x ∷ []) c).0, all_left (λ (y : ℕ). v ≢ y) (froms g ts) (x ∷ []) c)

      done : (v : ℕ) → g.places < B v → (M v ≢ 0) × Avoids v (x ∷ froms g ts)
      done v b = at (ℕ_discrete v (g.dst q))
        where
          at : Dec (v ≡ g.dst q) → (M v ≢ 0) × Avoids v (x ∷ froms g ts)
          at (yes z) = subst (λ (u : ℕ). (M u ≢ 0) × Avoids u (x ∷ froms g ts)) (sym z) (m, off (g.dst q) s.simple.0)
          at (no z) = let r = s.done v (omega (arith, put.same v z)) in (r.0, off v r.1.1)

      listed : (v : ℕ) → v < g.transitions → B v < g.places → T (B v) × (g.src (B v) ≡ v)
      listed v i b = at (ℕ_discrete v (g.dst q))
        where
          at : Dec (v ≡ g.dst q) → T (B v) × (g.src (B v) ≡ v)
          at (yes z) = absurd (omega (arith, ap B z, put.new))
          at (no z) = let j = put.same v z in rw j (s.listed v i (omega arith))

      back : Search g T root goal M N B x ts
      back = record {
        trail = t;
        listed = listed;
        tried = tried;
        dead = dead;
        done = done;
        free = s.free;
        begun = s.begun;
        stands = (all_right (λ (v : ℕ). M v ≢ 0) (froms g ts) (x ∷ []) marks).0;
        marks = all_left (λ (v : ℕ). M v ≢ 0) (froms g ts) (x ∷ []) marks;
        simple = distinct_swap (froms g ts) (x ∷ []) single;
      }
