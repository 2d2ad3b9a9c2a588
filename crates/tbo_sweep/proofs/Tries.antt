-- The places of an operation and of an edge, tried one after the other.
use mathlib.Core.Path.{◌≡◌, refl, ◌∙◌}
use mathlib.Core.Logic.{◌⊎◌, inl, inr}
use mathlib.Core.List.{List}
use Prim.Native.Nat.{ℕ, ◌+◌, ◌*◌, ◌≤◌, ◌<◌}
use native.Mathlib.Omega.{arith}
use native.Mathlib.Nat.{mul-le-mul}
use native.Mathlib.Decide.{ℕ_discrete}
use Rattle.std.specs.Prelude.{Option, None, Some}
use Rattle.std.specs.Option.{option_or}
use Rattle.marked.specs.Net.{Proper, at}
use Rattle.net.specs.Limits.{longest_time, most_transitions}
use Rattle.net.specs.Ends.{read_of, write_of}
use Rattle.net.specs.Graph.{RunsFrom}
use Rattle.fraction.specs.helpers.Loaded.{Loaded, Weighted, loaded, most_held, most_time}
use Rattle.fraction.proofs.Loads.{edge_runs, row_runs, weighted_proper}
use Rattle.tbo_sweep.specs.helpers.Places.{Between}
use Rattle.tbo_sweep.specs.helpers.Raises.{Raised, Room, SweptArrays}
use Rattle.tbo_sweep.proofs.Lifting.{lifts_bound}
use Rattle.tbo_sweep.proofs.Sweeping.{raised_long, swept_at, swept_none, swept_then, swept_to}

-- One of two places in turn; one of three is one of the first two or the last.
one_of : (q p : ℕ) → Between q (q + 2) p → (p ≡ q) ⊎ (p ≡ q + 1)
one_of q p h = elim (ℕ_discrete p q) [ yes z ↦ inl z | no z ↦ inr (omega (arith, h.0, h.1)) ]

last_or : (q p : ℕ) → Between q (q + 3) p → Between q (q + 2) p ⊎ (p ≡ q + 2)
last_or q p h = elim (ℕ_discrete p (q + 2)) [ yes z ↦ inr z | no z ↦ inl (h.0, omega (arith, h.1)) ]

module _ {g : Loaded} {a b : ℕ} where
  pub swepts_none : {S : ℕ → Type 0} {d c : List ℕ} → ((p : ℕ) → S p → ⊥) → SweptArrays g a b S 0 d c d c None
  swepts_none f = record { swept = swept_none f; long = refl; wide = refl }

  pub swepts_then :
      {S U W : ℕ → Type 0} {k l : ℕ} {y z : Option ℕ} {d c h r i j : List ℕ} → ((p : ℕ) → W p → S p ⊎ U p)
      → SweptArrays g a b S k d c h r y → SweptArrays g a b U l h r i j z → SweptArrays g a b W (k + l) d c i j (option_or z y)
  swepts_then f v w = record { swept = swept_then f v.swept w.swept; long = w.long ∙ v.long; wide = w.wide ∙ v.wide }

  pub swepts_to :
      {S U : ℕ → Type 0} {k l : ℕ} {y : Option ℕ} {d c h r : List ℕ} → ((p : ℕ) → U p → S p) → k ≤ l → SweptArrays g a b S k d c h r y → SweptArrays g a b U l d c h r y
  swepts_to f e v = record { swept = swept_to f e v.swept; long = v.long; wide = v.wide }

  -- One place, from s to t.
  swepts_one :
      {d c h k : List ℕ} {y : Option ℕ} {s t : ℕ} (q : ℕ) → g.net.transitions ≤ most_transitions → Proper g.net → RunsFrom g.net q s t
      → Raised s t q (b * g.time s) (a * g.held q) d c h k y → SweptArrays g a b (◌≡ q) 1 d c h k y
  swepts_one q few ok r w = record { swept = swept_at few q (ok.dst_in q r.place) r w; long = (raised_long w).0; wide = (raised_long w).1 }

module _ {n e : ℕ} {from to marking times : List ℕ} (o : Weighted n e from to marking times) where
  few : 3 * n + 2 ≤ most_transitions
  few = omega (arith, o.wired.operations)

  -- The three places of the operation in row i,
  pub op_swept :
      {a b i : ℕ} {d c d1 c1 d2 c2 d3 c3 : List ℕ} {x y z : Option ℕ} → i < n
      → Raised (3 * i + 1) (3 * i + 2) (3 * i) (b * at times (3 * i + 1)) (a * at marking (3 * i)) d c d1 c1 x
      → Raised (3 * i + 2) (3 * i + 3) (3 * i + 1) (b * at times (3 * i + 2)) (a * at marking (3 * i + 1)) d1 c1 d2 c2 y
      → Raised (3 * i + 3) (3 * i + 1) (3 * i + 2) (b * at times (3 * i + 3)) (a * at marking (3 * i + 2)) d2 c2 d3 c3 z
      → SweptArrays (loaded n e from to marking times) a b (Between (3 * i) (3 * i + 3)) 3 d c d3 c3 (option_or z (option_or y x))
  op_swept {i = i} h r s v =
      let g = loaded n e from to marking times in
      let runs = row_runs o h in
      swepts_then {g = g} {U = λ p. p ≡ 3 * i + 2} (λ p j. last_or (3 * i) p j)
      (swepts_then {W = Between (3 * i) (3 * i + 2)} (λ p j. one_of (3 * i) p j)
      (swepts_one {g = g} (3 * i) few (weighted_proper o) runs.0 r)
      (swepts_one {g = g} (3 * i + 1) few (weighted_proper o) runs.1 s))
      (swepts_one {g = g} (3 * i + 2) few (weighted_proper o) runs.2 v)

  -- and the two of edge k, from u to v and back.
  pub edge_swept :
      {a b k u v : ℕ} {d c d1 c1 d2 c2 : List ℕ} {x y : Option ℕ} → k < e → u ≡ write_of (at from k) → v ≡ read_of (at to k)
      → Raised u v (3 * n + 2 * k) (b * at times u) (a * at marking (3 * n + 2 * k)) d c d1 c1 x
      → Raised v u (3 * n + 2 * k + 1) (b * at times v) (a * at marking (3 * n + 2 * k + 1)) d1 c1 d2 c2 y
      → SweptArrays (loaded n e from to marking times) a b (Between (3 * n + 2 * k) (3 * n + 2 * k + 2)) 2 d c d2 c2 (option_or y x)
  edge_swept {k = k} h eu ev r s =
      let g = loaded n e from to marking times in
      let runs = edge_runs o h eu ev in
      swepts_then {g = g} (λ q j. one_of (3 * n + 2 * k) q j)
      (swepts_one {g = g} (3 * n + 2 * k) few (weighted_proper o) runs.0 r)
      (swepts_one {g = g} (3 * n + 2 * k + 1) few (weighted_proper o) runs.1 s)

-- Sweeps leave room.
pub room_swept :
    {g : Loaded} {a b : ℕ} {S : ℕ → Type 0} {most : ℕ} {y : Option ℕ} {d c h k : List ℕ} {top : ℕ}
    → ((p : ℕ) → p < g.net.places → g.time (g.net.src p) ≤ longest_time) → b ≤ most_held → Room top d c
    → SweptArrays g a b S most d c h k y → Room (top + most * most_time) h k
room_swept {top = top} short l o w = record {
  low = λ v. omega (arith, w.swept.few, lifts_bound top most_time (λ p i. mul-le-mul l (short p i)) o.low w.swept.lifts v);
  long = w.long ∙ o.long;
  wide = w.wide ∙ o.wide;
}

-- One behind the other.
pub or_two : (y x w : Option ℕ) → option_or y (option_or x w) ≡ option_or (option_or y x) w
or_two None x w = refl
or_two (Some t) x w = refl
