-- The largest time per token over circuits: in lowest terms there is one, and no other.
use mathlib.Core.Path.{◌≡◌, ap}
use mathlib.Core.Logic.{◌⊎◌, inl, inr}
use mathlib.Core.List.{List, [], ◌∷◌}
use Prim.Native.Nat.{◌*◌, ◌+◌, ◌/◌, ◌<◌, ◌≤◌, suc, zero, ℕ}
use native.Mathlib.Nat.{le_antisymm, le_of_mul-le-mul_right, mul-le-mul_left}
use native.Mathlib.Omega.{arith}
use lib.ListN.{length}
use Rattle.marked.specs.Lists.{All}
use Rattle.marked.specs.Sums.{upto}
use Rattle.marked.specs.Net.{Net, Proper, lasts, tokens}
use Rattle.marked.specs.Circuits.{Circuit, Live}
use Rattle.marked.specs.Bounds.{Largest, Reduced}
use Rattle.marked.proofs.Find.{above, find_list}
use Rattle.marked.proofs.Walks.{starts}
use Rattle.marked.proofs.Sizes.{circuit_lasts, circuit_length, circuit_tokens, walk_places}
use Rattle.marked.proofs.Fraction.{ratio_bound, ratio_step, reduced_unique}
use Rattle.marked.proofs.Reduce.{largest_same, lower}
use Rattle.marked.proofs.Check.{circuit?}

-- A circuit with more time per token than a / b.
pub record Exceeds (g : Net) (m time : ℕ → ℕ) (a b : ℕ) : Type 0 where
  pub turn : ℕ
  pub ring : List ℕ
  pub circuit : Circuit g turn ring
  pub over : a * tokens m ring < b * lasts g time ring

-- The places ps have no more time per token than a / b, where they are a circuit.
abbrev Keeps : Net → (ℕ → ℕ) → (ℕ → ℕ) → ℕ → ℕ → List ℕ → Type 0
Keeps g m time a b ps = (c : ℕ) → Circuit g c ps → b * lasts g time ps ≤ a * tokens m ps

module _ (g : Net) (m time : ℕ → ℕ) (a b : ℕ) where
  test : (ps : List ℕ) → Exceeds g m time a b ⊎ Keeps g m time a b ps
  test [] = inr (λ c y. absurd (omega (arith, y.some)))
  test (p ∷ ps) = at (circuit? g (g.src p) (p ∷ ps)) (above (a * tokens m (p ∷ ps)) (b * lasts g time (p ∷ ps)))
    where
      at :
          Dec (Circuit g (g.src p) (p ∷ ps)) →
          (a * tokens m (p ∷ ps) < b * lasts g time (p ∷ ps)) ⊎ (b * lasts g time (p ∷ ps) ≤ a * tokens m (p ∷ ps)) →
          Exceeds g m time a b ⊎ Keeps g m time a b (p ∷ ps)
      at (yes y) (inl o) = inl (record { turn = g.src p; ring = p ∷ ps; circuit = y; over = o })
      at (no f) (inl o) = inr (λ c y. absurd (f (rw (starts y.walk) y)))
      at d (inr h) = inr (λ c y. h)

  -- Circuits are short lists of places, so a search tells whether one exceeds a / b.
  exceeds_or : Proper g → Exceeds g m time a b ⊎ ((c : ℕ) (ps : List ℕ) → Circuit g c ps → b * lasts g time ps ≤ a * tokens m ps)
  exceeds_or ok = at (find_list g.places (Exceeds g m time a b) (Keeps g m time a b) test g.transitions)
    where
      at : Exceeds g m time a b ⊎ ((ps : List ℕ) → length ps ≤ g.transitions → All (◌< g.places) ps → Keeps g m time a b ps)
          → Exceeds g m time a b ⊎ ((c : ℕ) (ps : List ℕ) → Circuit g c ps → b * lasts g time ps ≤ a * tokens m ps)
      at (inl o) = inl o
      at (inr h) = inr (λ c ps y. h ps (circuit_length g ok y) (walk_places y.walk) c y)

module _ (g : Net) (m time : ℕ → ℕ) (live : Live g m) where
  no_more : (a b c e : ℕ) → Largest g m time a b → Largest g m time c e → a * e ≤ c * b
  no_more a b c e x y =
      let s = lasts g time x.ring in
      let k = tokens m x.ring in
      let f1 : e * (b * s) ≡ e * (a * k) = ap (λ (z : ℕ). e * z) x.attains in
      let f2 : b * (e * s) ≤ b * (c * k) = mul-le-mul_left b (y.bound x.turn x.ring x.circuit) in
      let f3 : a * e * k ≤ c * b * k = omega arith in
      le_of_mul-le-mul_right {k = k} f3 (live x.turn x.ring x.circuit.walk x.circuit.some)

  -- In lowest terms the largest time per token is one.
  pub largest_unique : (a b c e : ℕ) → Largest g m time a b → Largest g m time c e → Reduced a b → Reduced c e → (a ≡ c) × (b ≡ e)
  largest_unique a b c e x y u v = reduced_unique a b c e u v (le_antisymm (no_more a b c e x y) (no_more c e a b y x))

  module _ (ok : Proper g) where
    -- no circuit has more tokens than `most`; `scale` counts a time per token in steps, and no circuit comes to more than `top`
    most : ℕ
    most = upto m g.places

    scale : ℕ → ℕ → ℕ
    scale a b = most * most * a / b

    top : ℕ
    top = most * most * upto time g.transitions

    -- from a circuit to a better one, k times at most, as long as there is one
    improve : (k : ℕ) {c : ℕ} {ps : List ℕ} → Circuit g c ps → top < scale (lasts g time ps) (tokens m ps) + k → (a : ℕ) × (b : ℕ) × (1 ≤ b) × Largest g m time a b
    unfolding most scale top
    improve zero {ps} x h = absurd (omega (arith, ratio_bound most (lasts g time ps) (tokens m ps) (upto time g.transitions) (circuit_lasts g ok x time)))
    improve (suc k) {c} {ps} x h = at (exceeds_or g m time (lasts g time ps) (tokens m ps) ok) (λ e qs. improve k {c = e} {ps = qs})
      where
        at : Exceeds g m time (lasts g time ps) (tokens m ps) ⊎ ((e : ℕ) (qs : List ℕ) → Circuit g e qs → tokens m ps * lasts g time qs ≤ lasts g time ps * tokens m qs)
            → ((e : ℕ) (qs : List ℕ) → Circuit g e qs → top < scale (lasts g time qs) (tokens m qs) + k → (a : ℕ) × (b : ℕ) × (1 ≤ b) × Largest g m time a b)
            → (a : ℕ) × (b : ℕ) × (1 ≤ b) × Largest g m time a b
        at (inl r) rest =
            let y = r.circuit in
            let up = ratio_step most (lasts g time ps) (tokens m ps) (lasts g time r.ring) (tokens m r.ring) (live c ps x.walk x.some) (circuit_tokens g ok x m)
            (live r.turn r.ring y.walk y.some) (circuit_tokens g ok y m) (omega (arith, r.over)) in
            rest r.turn r.ring y (omega (arith, up))
        at (inr r) rest = (lasts g time ps, tokens m ps, live c ps x.walk x.some, record { bound = r; turn = c; ring = ps; circuit = x; attains = omega arith })

    -- Where there is a circuit there is a largest time per token, in lowest terms.
    pub largest_exists : {c : ℕ} {ps : List ℕ} → Circuit g c ps → (a : ℕ) × (b : ℕ) × Largest g m time a b × Reduced a b
    largest_exists x =
        let l = improve (suc top) x (omega arith) in
        let r = lower l.0 l.1 l.2 in
        (r.num, r.den, largest_same g m time l.0 l.1 r.num r.den l.2 r.same l.3, r.reduced)
