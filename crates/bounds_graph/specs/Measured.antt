-- The bounds of a graph.
use Rattle.std.specs.Prelude.{List, ℕ}
use Rattle.net.specs.Plan.{Plan}
use Rattle.net.specs.Graph.{net_of, start_of, times_of}
use Rattle.paths_finish.specs.Longest.{TBIO, TCE, TT}
use Rattle.tbo.specs.TBO.{TBO}
use Rattle.circuit.specs.Chosen.{Handed}
use Rattle.bounds_graph.specs.declared.reply.Measures.{Measures}

-- The bounds r of a graph. The circuit that attains TBO stands in the first entries of the buffer, as many as `length` tells; the others are as they were.
pub record BoundsOf (g : Plan) (before : List ℕ) (r : Measures) (after : List ℕ) : Type 0 where
  pub tbo_is : TBO g r.numerator r.denominator
  pub tbio_is : TBIO g r.tbio
  pub tt_is : TT g r.tt
  pub tce_is : TCE g r.tce
  pub circuit : Handed (net_of g) (start_of g) (times_of g) r.numerator r.denominator before r.length after
