-- From the lowest tight place with a way back to the chosen circuit.
use mathlib.Core.Path.{◌≡◌, sym, subst}
use mathlib.Core.Logic.{◌⊎◌, inl, inr}
use mathlib.Core.List.{List, [], ◌++◌, ◌∷◌}
use Prim.Native.Nat.{◌<◌, ◌≤◌, ℕ}
use native.Mathlib.Omega.{arith}
use native.Mathlib.Decide.{dec_lt}
use Rattle.marked.specs.Lists.{All}
use Rattle.marked.specs.Net.{Net, Walk, go}
use Rattle.marked.specs.Circuits.{Circuit}
use Rattle.marked.specs.Order.{Before, LowestFirst}
use Rattle.marked.specs.Order.Before.{later, lower}
use Rattle.marked.specs.Bounds.{Attains, Certifies, Largest, Tight}
use Rattle.marked.proofs.Certificate.{attains_tight, tight_attains}
use Rattle.marked.proofs.Entries.{all_append, all_left, all_map, all_right}
use Rattle.marked.proofs.Rotate.{Lowest, lowest, rotate}
use Rattle.marked.proofs.Sizes.{walk_places}
use Rattle.marked.proofs.Walks.{rest, starts}
use Rattle.circuit_search.specs.helpers.Ways.{Cut, First, Rival}
use Rattle.circuit.specs.Chosen.{Chosen}

module _ {g : Net} {T : ℕ → Type 0} where
  -- A circuit of places of T is its first place with a way back to it.
  rival_of : {c p : ℕ} {ps : List ℕ} → Circuit g c (p ∷ ps) → All T (p ∷ ps) → Rival g T (g.dst p) (g.src p) ps
  rival_of {c} {p} {ps} x t = record {
    walk = subst (λ (z : ℕ). Walk g (g.dst p) z ps) (sym (starts x.walk)) (rest x.walk);
    tight = t.1;
    simple = x.simple;
  }

module _
    (g : Net) (m time : ℕ → ℕ) (a b : ℕ) (D : ℕ → ℕ) (cert : Certifies g m time a b D) {r : ℕ}
    (below : (p : ℕ) → p < r → Tight g m time a b D p → Cut g (Tight g m time a b D) (g.dst p) (g.src p)) where
  -- Where a circuit attains there is one to choose.
  pub some_place : Largest g m time a b → r < g.places
  some_place x = at x.ring x.circuit x.attains (dec_lt r g.places)
    where
      at : (ps : List ℕ) → Circuit g x.turn ps → Attains g m time a b ps → Dec (r < g.places) → r < g.places
      at ps c e (yes h) = h
      at [] c e (no h) = let z : 1 ≤ 0 = c.some in absurd (omega arith)
      at (p ∷ ps) c e (no h) =
          let t = attains_tight g m time a b D cert c.walk e in
          absurd (below p (omega (arith, (walk_places c.walk).0)) t.0 ps (rival_of c t))

  -- The circuit that starts with r and goes on along the first way
  module _ (h : r < g.places) (fits : Tight g m time a b D r) (way : List ℕ) (n : First g (Tight g m time a b D) (g.dst r) (g.src r) way) where
    ring : Circuit g (g.src r) (r ∷ way)
    ring = record { walk = go r h n.rival.walk; some = omega arith; simple = n.rival.simple }

    -- is written lowest place first,
    low : Lowest (r ∷ way) → LowestFirst (r ∷ way)
    low o = at (dec_lt o.entry r)
      where
        at : Dec (o.entry < r) → LowestFirst (r ∷ way)
        at (no k) = all_map (λ y l. omega arith) way o.low.1
        at (yes k) =
            let T = Tight g m time a b D in
            let c : Circuit g (g.src r) (o.before ++ (o.entry ∷ o.after)) = rw o.parts at ring in
            let t : All T (o.before ++ (o.entry ∷ o.after)) = subst (λ (l : List ℕ). All T l) o.parts (fits, n.rival.tight) in
            let u = all_append T (o.entry ∷ o.after) o.before (all_right T o.before (o.entry ∷ o.after) t) (all_left T o.before (o.entry ∷ o.after) t) in
            absurd (below o.entry k u.0 (o.after ++ o.before) (rival_of (rotate g o.before (o.entry ∷ o.after) c).1 u))

    -- and stands before every other that attains.
    before : (c : ℕ) (qs : List ℕ) → Circuit g c qs → Attains g m time a b qs → (r ∷ way ≡ qs) ⊎ Before (r ∷ way) qs
    before c [] x e = let z : 1 ≤ 0 = x.some in absurd (omega arith)
    before c (p ∷ ps) x e = at (dec_lt p r) (dec_lt r p)
      where
        t : All (Tight g m time a b D) (p ∷ ps)
        t = attains_tight g m time a b D cert x.walk e

        on : p ≡ r → (way ≡ ps) ⊎ Before way ps → (r ∷ way ≡ p ∷ ps) ⊎ Before (r ∷ way) (p ∷ ps)
        on z (inl d) = inl (rw (d, z))
        on z (inr d) = inr (rw z (later d))

        at : Dec (p < r) → Dec (r < p) → (r ∷ way ≡ p ∷ ps) ⊎ Before (r ∷ way) (p ∷ ps)
        at (yes k) d = absurd (below p k t.0 ps (rival_of x t))
        at (no k) (yes d) = inr (lower d)
        at (no k) (no d) =
            let z : p ≡ r = omega arith in
            on z (n.first ps (subst (λ (q : ℕ). Rival g (Tight g m time a b D) (g.dst q) (g.src q) ps) z (rival_of x t)))

    pub chosen_way : Chosen g m time a b (r ∷ way)
    chosen_way = record {
      turn = g.src r;
      circuit = ring;
      attains = tight_attains g m time a b D ring.walk (fits, n.rival.tight);
      lowest = low (lowest r way);
      first = λ c qs x e l. before c qs x e;
    }
