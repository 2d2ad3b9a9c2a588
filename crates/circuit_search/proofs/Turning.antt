-- The moves of the search on its arrays.
use mathlib.Core.Path.{◌≡◌, ap, refl, sym, ◌∙◌, subst}
use mathlib.Core.Logic.{◌≢◌}
use mathlib.Core.Bool.{Bool, true, false}
use mathlib.Core.List.{List, [], ◌++◌, ◌∷◌}
use Prim.Native.Nat.{◌+◌, ◌<◌, ◌≤◌, ℕ}
use native.Mathlib.Omega.{arith}
use native.Mathlib.Decide.{dec_lt, ℕ_discrete}
use lib.ListN.{get_or, length, length-set, set}
use lib.Seq.{get_or-set_other, get_or-set_same}
use Rattle.marked.specs.Sums.{upto}
use Rattle.marked.specs.Net.{at}
use Rattle.marked.proofs.Pigeonhole.{upto_less}
use Rattle.circuit_tight.specs.helpers.Lists.{Threaded, Listed, Next, drawn}
use Rattle.circuit_search.specs.helpers.Ways.{Cut, FirstNoted, Search, Trail}
use Rattle.circuit_search.specs.helpers.Ways.Trail.{here, on}
use Rattle.circuit_search.specs.helpers.Turns.{Under, mark, marks}
use Rattle.circuit_search.proofs.Trails.{none_left}
use Rattle.circuit_search.proofs.Moves.{Popped, Put, pop, push, reached, skip}

put_set : (l : List ℕ) (i v : ℕ) → i < length l → Put (at l) (at (set l i v)) i v
put_set l i v h = record { new = get_or-set_same l i v 0 h; same = λ u f. get_or-set_other l i u v 0 f }

put_mark : (l : List Bool) (i : ℕ) → i < length l → Put (marks l) (marks (set l i true)) i 1
put_mark l i h = record { new = ap mark (get_or-set_same l i true false h); same = λ u f. ap mark (get_or-set_other l i u true false f) }

module _ {nt np : ℕ} {next src dst : List ℕ} (k : Threaded nt np next src dst) {root goal : ℕ} {seen : List Bool} {via cur : List ℕ} {x : ℕ} (u : Under nt np src dst root goal seen via cur x) where
  trail_in : {M N : ℕ → ℕ} {y : ℕ} {ts : List ℕ} → root < nt → Trail (drawn nt np src dst) (Listed dst) root goal M N y ts → y < nt
  trail_in l here = l
  trail_in l (on q t h i e b m n) = k.enters q h i

  -- The search stands at a transition,
  pub stands_in : x < nt
  stands_in = trail_in u.start u.search.trail

  pub stands : x < 122
  stands = omega (arith, k.few, stands_in)

  -- which is not given up.
  pub still : at cur x ≤ np
  still = elim (dec_lt np (at cur x)) [ yes h ↦ absurd ((u.search.done x h).1.0 refl) | no h ↦ omega arith ]

  -- A later entry at x is progress.
  pub further : {to : ℕ} → at cur x < to → upto (at cur) 122 < upto (at (set cur x to)) 122
  further {to} h = upto_less (at (set cur x to)) (at cur) 122 x (λ v. at_least v (ℕ_discrete v x)) stands (rw p.new h)
    where
      p : Put (at cur) (at (set cur x to)) x to
      p = put_set cur x to (omega (arith, u.long, stands))

      at_least : (v : ℕ) → Dec (v ≡ x) → at cur v ≤ at (set cur x to) v
      at_least v (yes e) = rw e (omega (arith, p.new))
      at_least v (no e) = omega (arith, p.same v e)

  low_next : {to : ℕ} → to ≤ np + 1 → (v : ℕ) → at (set cur x to) v ≤ np + 1
  low_next {to} h v = elim (ℕ_discrete v x) [
    | yes e ↦ rw e (omega (arith, get_or-set_same cur x to 0 (omega (arith, u.long, stands))))
    | no e ↦ omega (arith, get_or-set_other cur x v to 0 e, u.low v)
  ]

  module _ {q : ℕ} (eq : q ≡ at cur x) where
    -- None is left.
    module _ (e : q ≡ np) where
      pub no_way : x ≡ root → Cut (drawn nt np src dst) (Listed dst) root goal
      no_way r = none_left u.search (sym eq ∙ e) r

      popped : x ≢ root → Popped (drawn nt np src dst) (Listed dst) root goal (marks seen) (at via) (at (set cur x (np + 1))) x u.ts
      popped r = pop u.search.trail u.search (sym eq ∙ e) (put_set cur x (np + 1) (omega (arith, u.long, stands))) r

      pub noted_in : {r : ℕ} → x ≢ root → r ≡ at via x → r < np
      noted_in w er = let p = popped w in omega (arith, p.note, p.inside)

      pub step_back : {r y : ℕ} → x ≢ root → r ≡ at via x → y ≡ at src r → Under nt np src dst root goal seen via (set cur x (np + 1)) y
      step_back {r} {y} w er ey =
          let p = popped w in
          let z : p.place ≡ r = omega (arith, p.note) in
          record {
            ts = p.rest;
            search = subst (λ (v : ℕ). Search (drawn nt np src dst) (Listed dst) root goal (marks seen) (at via) (at (set cur x (np + 1))) v p.rest) (ap (at src) z ∙ sym ey) p.search;
            start = u.start;
            wide = u.wide;
            deep = u.deep;
            long = length-set cur x (np + 1) ∙ u.long;
            low = low_next (omega arith);
          }

    -- One is.
    module _ (f : q ≢ np) where
      pub less : q < np
      less = omega (arith, still)

      pub tight : Listed dst q
      tight = rw eq (u.search.listed x stands_in (omega (arith, less))).0

      leaves : at src q ≡ x
      leaves = rw eq (u.search.listed x stands_in (omega (arith, less))).1

      after : Next (drawn nt np src dst) (Listed dst) x (q + 1) (at next q)
      after = subst (λ (v : ℕ). Next (drawn nt np src dst) (Listed dst) v (q + 1) (at next q)) leaves (k.nexts q less tight)

      pub beyond : at cur x < at next q
      beyond = elim (dec_lt (at next q) np) [ yes h ↦ omega (arith, (after.fits h).0) | no h ↦ omega (arith, less) ]

      put : Put (at cur) (at (set cur x (at next q))) x (at next q)
      put = put_set cur x (at next q) (omega (arith, u.long, stands))

      pub pass : {y : ℕ} → y ≡ at dst q → get_or seen y false ≡ true → Under nt np src dst root goal seen via (set cur x (at next q)) x
      pass {y} ey n = record {
        ts = u.ts;
        search = skip u.search (sym eq) put after (λ t l z. omega (arith, ap mark n, ap (marks seen) ey));
        start = u.start;
        wide = u.wide;
        deep = u.deep;
        long = length-set cur x (at next q) ∙ u.long;
        low = low_next (omega (arith, after.most));
      }

      module _ {y : ℕ} (ey : y ≡ at dst q) where
        pub leads_in : y < nt
        leads_in = omega (arith, k.enters q less tight)

        leads : y < 122
        leads = omega (arith, k.few, leads_in)

        noted : Put (at via) (at (set via y q)) (at dst q) q
        noted = subst (λ (z : ℕ). Put (at via) (at (set via y q)) z q) ey (put_set via y q (omega (arith, u.deep, leads)))

        pub go_on : get_or seen y false ≡ false → goal ≢ y → Under nt np src dst root goal (set seen y true) (set via y q) (set cur x (at next q)) y
        go_on n w =
            let marked : Put (marks seen) (marks (set seen y true)) (at dst q) 1 = subst (λ (z : ℕ). Put (marks seen) (marks (set seen y true)) z 1) ey (put_mark seen y (omega (arith, u.wide, leads))) in
            let r = push u.search (sym eq) put after less tight leaves (sym (ap (marks seen) ey) ∙ ap mark n) (λ z. w (z ∙ sym ey)) marked noted in
            record {
              ts = u.ts ++ (q ∷ []);
              search = subst
                  (λ (z : ℕ). Search (drawn nt np src dst) (Listed dst) root goal (marks (set seen y true)) (at (set via y q)) (at (set cur x (at next q))) z (u.ts ++ (q ∷ [])))
                  (sym ey)
                  r;
              start = u.start;
              wide = length-set seen y true ∙ u.wide;
              deep = length-set via y q ∙ u.deep;
              long = length-set cur x (at next q) ∙ u.long;
              low = low_next (omega (arith, after.most));
            }

        pub arrive : y ≡ goal → FirstNoted (drawn nt np src dst) (Listed dst) root goal (at (set via y q)) × (length (set via y q) ≡ 122)
        arrive e = (reached u.search (sym eq) put after less tight leaves (sym ey ∙ e) noted, length-set via y q ∙ u.deep)
