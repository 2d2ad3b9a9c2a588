-- Going back from a transition along the noted places: after enough sweeps the chain of one that still rises comes round.
use mathlib.Core.Path.{◌≡◌, ap, refl, sym, ◌∙◌}
use mathlib.Core.Logic.{◌⊎◌, inl, inr}
use mathlib.Core.List.{List, [], ◌∷◌}
use Prim.Native.Nat.{◌*◌, ◌+◌, ◌-◌, ◌<◌, ◌≤◌, suc, zero, ℕ}
use native.Mathlib.Omega.{arith}
use lib.ListN.{length}
use Rattle.marked.specs.Lists.{All}
use Rattle.marked.specs.Sums.{sum}
use Rattle.marked.specs.Net.{Net, Proper, Walk, go, lasts, stop, tokens}
use Rattle.tbo_sweep.specs.helpers.Raises.{Noted, NoRise}
use Rattle.tbo_round.specs.helpers.Chains.{Notes, back, behind}
use Rattle.tbo_round.proofs.Steadies.{Steady}
use Rattle.tbo_round.proofs.Crowd.{crowded}

-- Sweeps over all places, k of them.
pub data Sweeps (g : Net) (m time : ℕ → ℕ) (a b : ℕ) : ℕ → (ℕ → ℕ) → (ℕ → ℕ) → Type 0 where
  begun : {D : ℕ → ℕ} → Sweeps g m time a b 0 D D
  further : {k : ℕ} {D E F : ℕ → ℕ} → ((v : ℕ) → D v ≤ E v) → ((p : ℕ) → p < g.places → NoRise g m time a b D E p) → Sweeps g m time a b k E F → Sweeps g m time a b (suc k) D F

module _ (g : Net) (P : ℕ → ℕ) where
  pub back_add : (i j v : ℕ) → back g P (i + j) v ≡ back g P i (back g P j v)
  unfolding back
  back_add zero j v = let h : 0 + j ≡ j = omega arith in ap (λ (k : ℕ). back g P k v) h
  back_add (suc i) j v =
      let h : suc i + j ≡ suc (i + j) = omega arith in
      rw h (rw (back_add i j v))

  -- one step back, from a transition with and without a note
  pub back_root : (k v : ℕ) → P (back g P k v) ≡ 0 → back g P (suc k) v ≡ back g P k v
  unfolding back behind
  back_root k v e = rw e

  pub back_noted : (k v p : ℕ) → P (back g P k v) ≡ p + 1 → back g P (suc k) v ≡ g.src p
  unfolding back behind
  back_noted k v p e = let h : P (back g P k v) ≡ suc p = e ∙ omega arith in rw h

  -- where there is no note the chain stays
  pub stuck : (j k v : ℕ) → P (back g P k v) ≡ 0 → back g P (j + k) v ≡ back g P k v
  stuck zero k v e = let h : 0 + k ≡ k = omega arith in ap (λ (i : ℕ). back g P i v) h
  stuck (suc j) k v e =
      let h : suc j + k ≡ suc (j + k) = omega arith in
      let r = stuck j k v e in
      rw h (back_root (j + k) v (ap P r ∙ e) ∙ r)

-- what stands at a number is 0 or one more than another
pub one_more : (x : ℕ) → (x ≡ 0) ⊎ ((y : ℕ) × (x ≡ y + 1))
one_more zero = inl refl
one_more (suc y) = inr (y, omega arith)

-- A chain of noted places from u to v.
pub record Chain (g : Net) (P : ℕ → ℕ) (k u v : ℕ) : Type 0 where
  pub way : List ℕ
  pub walk : Walk g u v way
  pub noted : All (Noted g P) way
  pub long : length way ≤ k

module _ {g : Net} {P : ℕ → ℕ} (s : Notes g P) where
  -- a noted place in front of a chain
  pub chain_on : {k u v : ℕ} (p : ℕ) → P u ≡ p + 1 → Chain g P k u v → Chain g P (suc k) (g.src p) v
  chain_on {k} {u} {v} p e c =
      let w : Walk g (g.dst p) v c.way = rw (s.ends u p e) c.walk in
      let n : P (g.dst p) ≡ p + 1 = ap P (s.ends u p e) ∙ e in
      record { way = p ∷ c.way; walk = go p (s.inside u p e) w; noted = (n, c.noted); long = omega (arith, c.long) }

  pub chain : (k v : ℕ) → Chain g P k (back g P k v) v
  unfolding back
  chain zero v = record { way = []; walk = stop; noted = tt; long = omega arith }
  chain (suc k) v = at (one_more (P (back g P k v))) (chain k v)
    where
      at : (P (back g P k v) ≡ 0) ⊎ ((p : ℕ) × (P (back g P k v) ≡ p + 1)) → Chain g P k (back g P k v) v → Chain g P (suc k) (back g P (suc k) v) v
      at (inl e) c = rw (back_root g P k v e) (record { way = c.way; walk = c.walk; noted = c.noted; long = omega (arith, c.long) })
      at (inr r) c = rw (back_noted g P k v r.0 r.1) (chain_on r.0 r.1 c)

  module _ (ok : Proper g) where
    pub back_in : (k v : ℕ) → v < g.transitions → back g P k v < g.transitions
    unfolding back
    back_in zero v h = h
    back_in (suc k) v h = at (one_more (P (back g P k v))) (back_in k v h)
      where
        at : (P (back g P k v) ≡ 0) ⊎ ((p : ℕ) × (P (back g P k v) ≡ p + 1)) → back g P k v < g.transitions → back g P (suc k) v < g.transitions
        at (inl e) r = rw (back_root g P k v e) r
        at (inr x) r = rw (back_noted g P k v x.0 x.1) (ok.src_in x.0 (s.inside (back g P k v) x.0 x.1))

    -- as many steps back as there are transitions lead to one that comes round within as many
    pub comes_round : (v : ℕ) → v < g.transitions →
        (j : ℕ) × (1 ≤ j) × (j ≤ g.transitions) × (back g P j (back g P g.transitions v) ≡ back g P g.transitions v)
    comes_round v h =
        let n = g.transitions in
        let r = crowded (λ (i : ℕ). back g P i v) n (λ i. back_in i v h) in
        let l : r.i < r.j = r.less in
        let k : r.j < suc n = r.within in
        let h1 : n ≡ n - r.i + r.i = omega arith in
        let h2 : r.j - r.i + n ≡ n - r.i + r.j = omega arith in
        let e1 : back g P n v ≡ back g P (n - r.i) (back g P r.i v) = ap (λ (z : ℕ). back g P z v) h1 ∙ back_add g P (n - r.i) r.i v in
        let e2 : back g P (r.j - r.i) (back g P n v) ≡ back g P (n - r.i) (back g P r.j v) =
        sym (back_add g P (r.j - r.i) n v) ∙ ap (λ (z : ℕ). back g P z v) h2 ∙ back_add g P (n - r.i) r.j v in
        let e3 : back g P (n - r.i) (back g P r.i v) ≡ back g P (n - r.i) (back g P r.j v) = ap (λ (z : ℕ). back g P (n - r.i) z) r.same in
        (r.j - r.i, omega arith, omega arith, e2 ∙ sym e3 ∙ sym e1)

module _ {g : Net} {m time : ℕ → ℕ} {a b : ℕ} {C D P : ℕ → ℕ} (s : Steady g m time a b C D P) where
  pub notes_of : Notes g P
  notes_of = record { inside = s.inside; ends = s.ends }

  -- along noted places the potential rises by no more than the walk's worth
  pub slack_along : {u v : ℕ} {ps : List ℕ} → Walk g u v ps → All (Noted g P) ps → D v + a * tokens m ps ≤ D u + b * lasts g time ps
  unfolding sum
  slack_along stop n = omega arith
  slack_along (go q h w) n = omega (arith, slack_along w n.1, s.slack (g.dst q) q n.0)

-- After k sweeps the potential is at least that of every walk of at most k places.
module _ {g : Net} {m time : ℕ → ℕ} {a b : ℕ} where
  pub sweeps_up : {k : ℕ} {C D : ℕ → ℕ} → Sweeps g m time a b k C D → (v : ℕ) → C v ≤ D v
  sweeps_up begun v = omega arith
  sweeps_up (further u p r) v = omega (arith, u v, sweeps_up r v)

  pub sweeps_snoc : {k : ℕ} {C D E : ℕ → ℕ} → Sweeps g m time a b k C D → ((v : ℕ) → D v ≤ E v) → ((p : ℕ) → p < g.places → NoRise g m time a b D E p) → Sweeps g m time a b (suc k) C E
  sweeps_snoc begun u p = further u p begun
  sweeps_snoc (further x y r) u p = further x y (sweeps_snoc r u p)

  pub reaches : {k : ℕ} {C D : ℕ → ℕ} {u v : ℕ} {ps : List ℕ} → Sweeps g m time a b k C D → Walk g u v ps → length ps ≤ k → C u + b * lasts g time ps ≤ D v + a * tokens m ps
  unfolding sum
  reaches {u = u} r stop l = omega (arith, sweeps_up r u)
  reaches begun (go p h w) l = absurd (omega arith)
  reaches (further {k = k} x y r) (go p h w) l = omega (arith, reaches {k = k} r w (omega arith), y p h)

  -- A transition that rises after that many sweeps has no end to its chain.
  pub no_end : {C D E P : ℕ → ℕ} {k : ℕ} (v : ℕ) → Sweeps g m time a b k C D → Steady g m time a b C E P → g.transitions ≤ k → D v < E v → P (back g P g.transitions v) ≡ 0 → ⊥
  no_end {C} {D} {E} {P} v r s l h e =
      let n = g.transitions in
      let u = back g P n v in
      let c = chain (notes_of s) n v in
      let f1 : E v + a * tokens m c.way ≤ E u + b * lasts g time c.way = slack_along s c.walk c.noted in
      let f2 : C u + b * lasts g time c.way ≤ D v + a * tokens m c.way = reaches r c.walk (omega (arith, c.long)) in
      omega (arith, s.root u e)
