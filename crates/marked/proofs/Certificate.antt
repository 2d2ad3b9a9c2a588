-- A certificate for a bound a / b on every circuit: a potential that no place lets fall too far.
use mathlib.Core.Path.{◌≡◌}
use mathlib.Core.List.{List}
use Prim.Native.Nat.{◌*◌, ◌+◌, ◌≤◌, ℕ}
use native.Mathlib.Omega.{arith}
use Rattle.marked.specs.Lists.{All}
use Rattle.marked.specs.Sums.{sum}
use Rattle.marked.specs.Net.{Net, Walk, go, lasts, stop, tokens}
use Rattle.marked.specs.Bounds.{Attains, Certifies, Tight}

module _ (g : Net) (m time : ℕ → ℕ) (a b : ℕ) (D : ℕ → ℕ) (cert : Certifies g m time a b D) where
  -- along a walk
  pub along : {u v : ℕ} {ps : List ℕ} → Walk g u v ps → D u + b * lasts g time ps ≤ D v + a * tokens m ps
  unfolding sum
  along stop = omega arith
  along (go p h w) = omega (arith, along w, cert p h)

  -- Every closed walk keeps the bound.
  pub certified : {u : ℕ} {ps : List ℕ} → Walk g u u ps → b * lasts g time ps ≤ a * tokens m ps
  certified w = omega (arith, along w)

  -- a walk whose ends differ by just its weight has tight places only
  tight_along : {u v : ℕ} {ps : List ℕ} → Walk g u v ps → D v + a * tokens m ps ≤ D u + b * lasts g time ps → All (Tight g m time a b D) ps
  unfolding sum
  tight_along stop e = tt
  tight_along (go p h w) e = (omega (arith, along w, cert p h), tight_along w (omega (arith, along w, cert p h)))

  -- A closed walk that attains the bound has tight places only.
  pub attains_tight : {u : ℕ} {ps : List ℕ} → Walk g u u ps → Attains g m time a b ps → All (Tight g m time a b D) ps
  attains_tight w e = tight_along w (omega arith)

module _ (g : Net) (m time : ℕ → ℕ) (a b : ℕ) (D : ℕ → ℕ) where
  -- a walk of tight places
  along_tight : {u v : ℕ} {ps : List ℕ} → Walk g u v ps → All (Tight g m time a b D) ps → D v + a * tokens m ps ≡ D u + b * lasts g time ps
  unfolding sum
  along_tight stop t = omega arith
  along_tight (go p h w) t = omega (arith, along_tight w t.1, t.0)

  -- A closed walk of tight places attains the bound.
  pub tight_attains : {u : ℕ} {ps : List ℕ} → Walk g u u ps → All (Tight g m time a b D) ps → Attains g m time a b ps
  tight_attains w t = omega (arith, along_tight w t)
