-- Writing the circuit from its end: what is filled stays, and the rest is still to come.
use mathlib.Core.Path.{◌≡◌, ap, refl, sym, ◌∙◌}
use mathlib.Core.Logic.{◌≢◌}
use mathlib.Core.List.{List, ◌++◌, ◌∷◌}
use Prim.Native.Nat.{◌+◌, ◌-◌, ◌<◌, ◌≤◌, suc, zero, ℕ}
use native.Mathlib.Omega.{arith}
use native.Mathlib.Decide.{dec_lt}
use lib.ListN.{get_or-append, drop, length, length-append, length-drop, length-set, set}
use lib.Seq.{ext_get_or, get_or-append-add, get_or-drop, get_or-set_other, get_or-set_same}
use Rattle.marked.specs.Net.{at}
use Rattle.circuit_tight.specs.helpers.Lists.{Threaded, Listed}
use Rattle.circuit.specs.helpers.Writing.{WayCounted, Written}
use Rattle.circuit.proofs.Climbs.{Climb, climb_end, climb_left, climb_on, climb_start, way_short}

-- The places behind x stand in ring from k on; beyond the way all is as it was in `before`.
pub record Fill (nt np : ℕ) (src dst : List ℕ) (root goal : ℕ) (via before ring : List ℕ) (x k len : ℕ) : Type 0 where
  pub climb : Climb nt np src dst root goal via x
  pub whole : len ≡ 1 + length climb.noted.way
  pub count : k + length climb.done ≡ 1 + length climb.noted.way
  pub slots : (j : ℕ) → j < length climb.done → at ring (k + j) ≡ at climb.done j
  pub others : (j : ℕ) → len ≤ j → at ring j ≡ at before j
  pub long : length ring ≡ length before

pub fill_start : {nt np : ℕ} {src dst : List ℕ} {root goal : ℕ} {via before : List ℕ} {k : ℕ} → root < nt → WayCounted nt np src dst root goal via k → Fill nt np src dst root goal via before before goal k k
fill_start {via = via} l m = record { climb = climb_start via l m.noted; whole = m.count; count = omega (arith, m.count); slots = λ j h. absurd (omega arith); others = λ j h. refl; long = refl }

module _
    {nt np : ℕ} {next src dst : List ℕ} (o : Threaded nt np next src dst) {root goal : ℕ} {via before ring : List ℕ} {x k len : ℕ}
    (c : Fill nt np src dst root goal via before ring x k len) (small : nt ≤ length before) where
  pub fill_left : x ≢ root → (2 ≤ k) × (k ≤ nt)
  fill_left f = climb_left o c.climb c.count f

  pub fill_on : {r y : ℕ} → x ≢ root → r ≡ at via x → y ≡ at src r → Fill nt np src dst root goal via before (set ring (k - 1) r) y (k - 1) len
  fill_on {r} {y} f e ey =
      let h = fill_left f in
      record {
        climb = climb_on c.climb f e ey;
        whole = c.whole;
        count = omega (arith, c.count, h.0);
        slots = slot h.0 h.1;
        others = λ j i. get_or-set_other ring (k - 1) j r 0 (λ b. omega (arith, c.count, c.whole)) ∙ c.others j i;
        long = length-set ring (k - 1) r ∙ c.long;
      }
    where
      slot : 2 ≤ k → k ≤ nt → (j : ℕ) → j < length (r ∷ c.climb.done) → at (set ring (k - 1) r) (k - 1 + j) ≡ at (r ∷ c.climb.done) j
      slot two room zero h = let a : k - 1 + 0 ≡ k - 1 = omega arith in rw a (get_or-set_same ring (k - 1) r 0 (omega (arith, c.long)))
      slot two room (suc j) h =
          let a : k - 1 + suc j ≡ k + j = omega arith in
          rw a (get_or-set_other ring (k - 1) (k + j) r 0 (λ b. omega arith) ∙ c.slots j (omega arith))

  -- At the root the first place is written too.
  pub fill_end : {p : ℕ} → root ≡ at dst p → goal ≡ at src p → root ≢ goal → x ≡ root → Written nt np src dst p before len (set ring 0 p)
  fill_end {p} er eg f e =
      let z : way ≡ c.climb.done = climb_end o c.climb f e in
      let k1 : k ≡ 1 = omega (arith, c.count, ap length z) in
      record {
        way = way;
        first = rw (← er, ← eg) c.climb.noted.first;
        count = c.whole;
        written = ext_get_or 0 (set ring 0 p) ((p ∷ way) ++ drop len before) lengths (λ i h. entry z k1 i (dec_lt i len));
      }
    where
      way : List ℕ
      way = c.climb.noted.way

      short : 1 + length way ≤ nt
      short = way_short o c.climb

      lengths : length (set ring 0 p) ≡ length ((p ∷ way) ++ drop len before)
      lengths = length-set ring 0 p ∙ c.long ∙ simp (length-append, length-drop) (omega (arith, short, c.whole))

      wrote : way ≡ c.climb.done → k ≡ 1 → (i : ℕ) → i < 1 + length way → at (set ring 0 p) i ≡ at (p ∷ way) i
      wrote z k1 zero h = get_or-set_same ring 0 p 0 (omega (arith, c.long, short))
      wrote z k1 (suc i) h =
          let a : suc i ≡ k + i = omega arith in
          get_or-set_other ring 0 (suc i) p 0 (λ b. omega arith) ∙ ap (at ring) a ∙ c.slots i (omega (arith, ap length z)) ∙ ap (λ (u : List ℕ). at u i) (sym z)

      entry : way ≡ c.climb.done → k ≡ 1 → (i : ℕ) → Dec (i < len) → at (set ring 0 p) i ≡ at ((p ∷ way) ++ drop len before) i
      entry z k1 i (yes h) = wrote z k1 i (omega (arith, c.whole)) ∙ sym (get_or-append (p ∷ way) (drop len before) 0 i (omega (arith, c.whole)))
      entry z k1 i (no h) =
          let j = i - len in
          let s : i ≡ length (p ∷ way) + j = omega (arith, c.whole) in
          let t : len + j ≡ i = omega arith in
          get_or-set_other ring 0 i p 0 (λ b. omega (arith, c.whole)) ∙ c.others i (omega arith)
          ∙ sym (ap (at ((p ∷ way) ++ drop len before)) s ∙ get_or-append-add (p ∷ way) (drop len before) j 0 ∙ get_or-drop len before j 0 ∙ ap (at before) t)

-- Both ends of a listed place are transitions, and they differ.
module _ {nt np : ℕ} {next src dst : List ℕ} (o : Threaded nt np next src dst) {p root : ℕ} (h : p < np) (l : Listed dst p) (er : root ≡ at dst p) where
  pub root_in : root < nt
  root_in = omega (arith, o.enters p h l)

  pub root_apart : {goal : ℕ} → goal ≡ at src p → root ≢ goal
  root_apart eg e = o.apart p h l (sym eg ∙ sym e ∙ er)
