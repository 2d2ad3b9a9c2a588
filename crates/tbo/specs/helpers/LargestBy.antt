-- TBO as the code finds it: the largest time per token, with the certificate that no circuit has more.
use Rattle.std.specs.Prelude.{List, ◌≤◌, ℕ}
use Rattle.marked.specs.Net.{at}
use Rattle.marked.specs.Bounds.{Certifies, Largest}
use Rattle.fraction.specs.helpers.Loaded.{Loaded, Pair, highest}

-- a / b is the largest time per token of a circuit, and d, one number a transition, certifies it.
pub record LargestBy (g : Loaded) (a b : ℕ) (d : List ℕ) : Type 0 where
  pub largest : Largest g.net g.held g.time a b
  pub certifies : Certifies g.net g.held g.time a b (at d)
  pub positive : 1 ≤ b
  pub small : Pair a b
  pub low : (v : ℕ) → at d v ≤ highest
