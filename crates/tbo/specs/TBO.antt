-- TBO.
use Rattle.std.specs.Prelude.{ℕ}
use Rattle.marked.specs.Bounds.{Largest, Reduced}
use Rattle.net.specs.Plan.{Plan}
use Rattle.net.specs.Graph.{net_of, start_of, times_of}

-- TBO: a / b is the largest time per token of a simple circuit of the computational graph, in lowest terms.
pub record TBO (g : Plan) (a b : ℕ) : Type 0 where
  pub largest : Largest (net_of g) (start_of g) (times_of g) a b
  pub reduced : Reduced a b
