-- What the sums over the rows of a graph answer.
use Rattle.std.specs.Prelude.{List, ℕ}
use Rattle.net.specs.Plan.{rows}
use Rattle.paths_finish.specs.Longest.{TBIO, TCE, TT}
use Rattle.paths.specs.declared.Sums.{Sums}

-- The three sums.
pub record SumsOf (n e : ℕ) (times from to mark buffers : List ℕ) (r : Sums) : Type 0 where
  pub tbio : TBIO (rows n e times from to mark buffers) r.tbio
  pub tt : TT (rows n e times from to mark buffers) r.tt
  pub tce : TCE (rows n e times from to mark buffers) r.tce
