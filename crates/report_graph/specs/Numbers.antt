-- The numbers of a graph's report and its text.
use Rattle.std.specs.Prelude.{List, ◌<◌, ℕ}
use Rattle.marked.specs.Wait.{WaitSum}
use Rattle.net.specs.Plan.{Plan}
use Rattle.net.specs.Graph.{net_of, start_of, times_of}
use Rattle.tbo.specs.TBO.{TBO}
use Rattle.paths_finish.specs.Longest.{TBIO, TCE, TT}
use Rattle.circuit.specs.Chosen.{Chosen}
use Rattle.bounds_graph.specs.declared.reply.Measures.{Measures}
use Rattle.report_text.specs.Text.{report_text}

-- The numbers of a graph's report: the bounds, the circuit that is handed out, and the wait of each transition from the starting marking.
pub record Numbers (g : Plan) (v : Measures) (ring : List ℕ) (wait : ℕ → ℕ) : Type 0 where
  pub tbo : TBO g v.numerator v.denominator
  pub tbio : TBIO g v.tbio
  pub tt : TT g v.tt
  pub tce : TCE g v.tce
  pub circuit : Chosen (net_of g) (start_of g) (times_of g) v.numerator v.denominator ring
  pub waits : (t : ℕ) → t < (net_of g).transitions → WaitSum (net_of g) (start_of g) t (wait t)

-- The text of a graph's report.
abbrev pub text_of : Plan → Measures → List ℕ → (ℕ → ℕ) → List ℕ
text_of g v ring wait = report_text g.operations g.edges v.numerator v.denominator v.tbio v.tt v.tce ring wait
