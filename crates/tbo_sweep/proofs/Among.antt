-- A sweep over all items tries every place.
use mathlib.Core.Path.{◌≡◌, subst, ◌∙◌}
use mathlib.Core.Logic.{◌⊎◌, inl, inr}
use mathlib.Core.List.{List}
use Prim.Native.Nat.{◌*◌, ◌+◌, ◌-◌, ◌/◌, ◌<◌, ◌≤◌, ℕ}
use native.Mathlib.Omega.{arith}
use lib.ListN.{get_or, length, take}
use Rattle.std.proofs.lemmas.List.{get_or-take, length-take}
use native.Mathlib.Decide.{dec_lt, ℕ_discrete}
use Rattle.marked.specs.Net.{at}
use Rattle.tbo_order.specs.helpers.Items.{Ordered}
use Rattle.tbo_sweep.specs.helpers.Places.{Among, Between, Every, Of}

-- Every place is one of some item.
pub all_among : {n e : ℕ} {ord : List ℕ} → e ≤ 128 → Ordered n e ord → (p : ℕ) → Every (3 * n + 2 * e) p → Among n ord (n + e) p
all_among {n} {e} {ord} many o p h = elim (dec_lt p (3 * n)) [
  | yes k ↦ let i = p / 3 in let r = o.all (128 + i) (inr (omega arith, omega arith)) in (r.0, r.1, rw r.2 (inr (omega arith, (omega arith, omega arith))))
  | no k ↦ let i = (p - 3 * n) / 2 in let r = o.all i (inl (omega arith)) in (r.0, r.1, rw r.2 (inl (omega arith, (omega arith, omega arith))))
]

-- What stands at j of the first k items.
pub handed : (ord : List ℕ) {k j r : ℕ} → j < length (take k ord) → r ≡ get_or (take k ord) j 0 → (j < k) × (r ≡ at ord j)
handed ord {k} {j} h e = let i : j < k = omega (arith, length-take k ord) in (i, e ∙ get_or-take k ord j 0 i)

-- The places of one item more.
pub among_last : (n j : ℕ) (ord : List ℕ) (p : ℕ) → Among n ord (j + 1) p → Among n ord j p ⊎ Of n (at ord j) p
among_last n j ord p r = elim (ℕ_discrete r.0 j) [
  | yes z ↦ inr (subst (λ (k : ℕ). Of n (at ord k) p) z r.2)
  | no z ↦ inl (r.0, omega (arith, r.1), r.2)
]

-- The places of an operation, and of an edge.
pub of_op : (n x p : ℕ) → 128 ≤ x → Of n x p → Between (3 * (x - 128)) (3 * (x - 128) + 3) p
of_op n x p h (inl k) = absurd (omega (arith, k.0))
of_op n x p h (inr k) = k.1

pub of_edge : (n x p : ℕ) → x < 128 → Of n x p → Between (3 * n + 2 * x) (3 * n + 2 * x + 2) p
of_edge n x p h (inl k) = k.1
of_edge n x p h (inr k) = absurd (omega (arith, k.0))
