-- What the search for a better closed walk answers.
use Rattle.std.specs.Prelude.{List, Option, None, Some, ◌*◌, ◌<◌, ◌≤◌, ℕ}
use Rattle.marked.specs.Net.{Net, at}
use Rattle.marked.specs.Bounds.{Certifies}
use Rattle.fraction.specs.helpers.Loaded.{Loaded, highest}
use Rattle.tbo_round.specs.helpers.Chains.{Tour}
use Rattle.fraction.specs.declared.load.Rate.{Rate}

-- How high the potentials may be at the start, so that no sweep takes them above `highest`.
abbrev pub lowly : ℕ
lowly = 100000000000000000

-- A certificate, or a closed walk with more time per token than a / b.
pub data Improves (g : Net) (m time : ℕ → ℕ) (a b : ℕ) (D : ℕ → ℕ) : Option Rate → Type 0 where
  certified : Certifies g m time a b D → Improves g m time a b D None
  beaten : {r : Rate} → Tour g m time r.time r.tokens → a * r.tokens < b * r.time → Improves g m time a b D (Some r)

-- The answer, with the certificate in d, whose entries stay small.
pub record Improved (g : Loaded) (a b : ℕ) (d : List ℕ) (r : Option Rate) : Type 0 where
  pub improves : Improves g.net g.held g.time a b (at d) r
  pub low : (v : ℕ) → at d v ≤ highest
