-- TBIO, TT and TCE.
use Rattle.std.specs.Prelude.{◌≡◌, List, ◌+◌, ◌≤◌, ℕ}
use Rattle.marked.specs.Sums.{upto}
use Rattle.net.specs.Plan.{Plan}
use Rattle.paths_finish.specs.Modified.{Path, path_time}

-- r is the largest sum of operation times on a path of the modified graph from the source to a node of a kind: one path has it, and none has more.
pub record Longest (g : Plan) (Kind : ℕ → Type 0) (r : ℕ) : Type 0 where
  pub end : ℕ
  pub kind : Kind end
  pub nodes : List ℕ
  pub path : Path g 0 end nodes
  pub has : path_time g nodes ≡ r
  pub most : (b : ℕ) (ns : List ℕ) → Kind b → Path g 0 b ns → path_time g ns ≤ r

-- The data sink is node N + 1.
abbrev pub DataSink : Plan → ℕ → Type 0
DataSink g v = v ≡ g.operations + 1

-- The sinks, fresh ones included, are the nodes above N.
abbrev pub Sink : Plan → ℕ → Type 0
Sink g v = g.operations + 1 ≤ v

-- TBIO: the largest sum on a path to the data sink.
abbrev pub TBIO : Plan → ℕ → Type 0
TBIO g r = Longest g (DataSink g) r

-- TT: the same to any sink.
abbrev pub TT : Plan → ℕ → Type 0
TT g r = Longest g (Sink g) r

-- The sum of the times of all operations, 1 to N.
abbrev pub effort : Plan → ℕ
effort g = upto (λ (i : ℕ). g.time (i + 1)) g.operations

-- TCE: the sum of all operation times.
abbrev pub TCE : Plan → ℕ → Type 0
TCE g r = r ≡ effort g
