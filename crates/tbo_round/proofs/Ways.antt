-- Ways of noted places: one more of them, how long they can be, and one step back.
use mathlib.Core.Path.{◌≡◌, ap, refl, sym, ◌∙◌}
use mathlib.Core.Logic.{◌⊎◌, inl, inr}
use mathlib.Core.List.{List, [], ◌∷◌}
use Prim.Native.Nat.{◌*◌, ◌+◌, ◌-◌, ◌<◌, ◌≤◌, suc, ℕ}
use native.Mathlib.Omega.{arith}
use native.Mathlib.Nat.{mul-le-mul_right}
use lib.ListN.{length}
use Rattle.marked.specs.Sums.{sum}
use Rattle.marked.specs.Net.{Net, Proper, Walk, at, go, lasts, stop, tokens}
use Rattle.marked.proofs.Find.{above}
use Rattle.net.specs.Limits.{longest_time}
use Rattle.net.specs.Plan.{wires}
use Rattle.net.specs.Graph.{net_of}
use Rattle.fraction.specs.helpers.Loaded.{Pair, Weighted, most_tokens}
use Rattle.fraction.proofs.Loads.{weighted_short}
use Rattle.tbo_round.specs.helpers.Chains.{Notes, Round, Tour, Turns, Way, back, behind}
use Rattle.tbo_round.proofs.Chains.{back_in, stuck}

-- Going round.
module _ {g : Net} {m time P : ℕ → ℕ} where
  pub way_none : (w : ℕ) → Way g m time P 0 w w 0 0
  unfolding sum
  way_none w = record { places = []; walk = stop; noted = tt; long = refl; lasts = refl; holds = refl }

  pub way_on : {k x w t n : ℕ} (p : ℕ) → Notes g P → P x ≡ p + 1 → Way g m time P k x w t n → Way g m time P (k + 1) (g.src p) w (t + time (g.src p)) (n + m p)
  unfolding sum
  way_on {k} {x} {w} p s e y =
      let v : Walk g (g.dst p) w y.places = rw (s.ends x p e) y.walk in
      let z : P (g.dst p) ≡ p + 1 = ap P (s.ends x p e) ∙ e in
      record { places = p ∷ y.places; walk = go p (s.inside x p e) v; noted = (z, y.noted); long = omega (arith, y.long); lasts = omega (arith, y.lasts); holds = omega (arith, y.holds) }

module _ {g : Net} {P : ℕ → ℕ} where
  module _ {w : ℕ} (r : Turns g P w) where
    -- as long as w has not come again
    pub not_yet : (k : ℕ) → ((i : ℕ) → 1 ≤ i → i ≤ k → back g P i w ≡ w → ⊥) → k < g.transitions
    not_yet k h = at (above k r.steps)
      where
        at : (k < r.steps) ⊎ (r.steps ≤ k) → k < g.transitions
        at (inl l) = omega (arith, r.few)
        at (inr l) = absurd (h r.steps r.some l r.round)

    -- there is a note
    pub still_noted : (k : ℕ) → ((i : ℕ) → 1 ≤ i → i ≤ k → back g P i w ≡ w → ⊥) → P (back g P k w) ≡ 0 → ⊥
    still_noted k h e = at (above k r.steps)
      where
        at : (k < r.steps) ⊎ (r.steps ≤ k) → ⊥
        at (inl l) =
            let z : r.steps - k + k ≡ r.steps = omega arith in
            let q : back g P r.steps w ≡ back g P k w = ap (λ (i : ℕ). back g P i w) (sym z) ∙ stuck g P (r.steps - k) k w e in
            let o : w ≡ back g P k w = sym r.round ∙ q in
            r.noted (ap P o ∙ e)
        at (inr l) = h r.steps r.some l r.round

    pub turns_in : Proper g → (k : ℕ) → back g P k w < g.transitions
    turns_in ok k = back_in r.notes ok k w r.within

-- what a walk takes and holds at most
walk_lasts : {g : Net} (time : ℕ → ℕ) (most : ℕ) → ((p : ℕ) → p < g.places → time (g.src p) ≤ most) → {u v : ℕ} {ps : List ℕ} → Walk g u v ps → lasts g time ps ≤ length ps * most
unfolding sum
walk_lasts time most short stop = omega arith
walk_lasts time most short (go p h w) = omega (arith, walk_lasts time most short w, short p h)

walk_holds : {g : Net} (m : ℕ → ℕ) → ((p : ℕ) → p < g.places → m p ≤ most_tokens) → {u v : ℕ} {ps : List ℕ} → Walk g u v ps → tokens m ps ≤ most_tokens * length ps
unfolding sum
walk_holds m few stop = omega arith
walk_holds m few (go p h w) = omega (arith, walk_holds m few w, few p h)

-- what a way and a tour do
module _ {g : Net} {m time : ℕ → ℕ} (most : ℕ) (short : (p : ℕ) → p < g.places → time (g.src p) ≤ most) (few : (p : ℕ) → p < g.places → m p ≤ most_tokens) where
  pub way_lasts : {P : ℕ → ℕ} {k x w t n : ℕ} → Way g m time P k x w t n → t ≤ k * most
  way_lasts y = let z = walk_lasts time most short y.walk in rw (y.lasts, y.long) at z

  pub way_holds : {P : ℕ → ℕ} {k x w t n : ℕ} → Way g m time P k x w t n → n ≤ most_tokens * k
  way_holds y = omega (arith, walk_holds m few y.walk, y.long, y.holds)

  pub tour_lasts : {t n : ℕ} → Tour g m time t n → t ≤ g.transitions * most
  tour_lasts y = let z : lasts g time y.places ≤ length y.places * most = walk_lasts time most short y.walk in omega (arith, mul-le-mul_right most y.few, y.lasts)

  pub tour_holds : {t n : ℕ} → Tour g m time t n → n ≤ most_tokens * g.transitions
  tour_holds y = omega (arith, walk_holds m few y.walk, y.few, y.holds)

-- A round of noted places is a tour.
pub round_tour : {g : Net} {m time P : ℕ → ℕ} {w t n : ℕ} → Round g m time P w t n → Tour g m time t n
round_tour {w = w} o =
    let y = o.way in
    record { turn = w; places = y.places; walk = y.walk; some = omega (arith, y.long, o.some); few = omega (arith, y.long, o.few); lasts = y.lasts; holds = y.holds }

-- The tours of the lent graph are small enough for the code.
pub tour_pair :
    {n e : ℕ} {from to marking times : List ℕ} {a b : ℕ} → Weighted n e from to marking times
    → Tour (net_of (wires n e from to)) (at marking) (at times) a b → Pair a b
tour_pair o x =
    record {
      up = omega (arith, o.wired.operations, tour_lasts longest_time (weighted_short o) o.few x);
      down = omega (arith, o.wired.operations, tour_holds longest_time (weighted_short o) o.few x);
    }

-- one step back
pub behind_root : (g : Net) (w x : ℕ) → x ≡ 0 → w ≡ behind g w x
unfolding behind
behind_root g w x e = rw e

pub behind_noted : (g : Net) (w x p : ℕ) → x ≡ p + 1 → g.src p ≡ behind g w x
unfolding behind
behind_noted g w x p e = let h : x ≡ suc p = e ∙ omega arith in rw h

pub back_none : (g : Net) (P : ℕ → ℕ) (v : ℕ) → v ≡ back g P 0 v
unfolding back
back_none g P v = refl

pub back_step : (g : Net) (P : ℕ → ℕ) (k v w r : ℕ) → w ≡ back g P k v → r ≡ behind g w (P w) → r ≡ back g P (k + 1) v
unfolding back
back_step g P k v w r e h = let z : k + 1 ≡ suc k = omega arith in rw z (h ∙ ap (λ (x : ℕ). behind g x (P x)) e)

-- where there is no note the chain stays, however many steps are left
pub back_stays : (g : Net) (P : ℕ → ℕ) (k all v w : ℕ) → w ≡ back g P k v → P w ≡ 0 → k ≤ all → w ≡ back g P all v
back_stays g P k all v w e z h =
    let parts : all - k + k ≡ all = omega arith in
    e ∙ sym (stuck g P (all - k) k v (sym (ap P e) ∙ z)) ∙ ap (λ (i : ℕ). back g P i v) parts
