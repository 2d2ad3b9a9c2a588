-- What the helper for an accepted graph answers.
use Rattle.std.specs.Prelude.{List, ℕ}
use Rattle.net.specs.Plan.{Plan}
use Rattle.bounds_graph.specs.declared.reply.Measures.{Measures}
use Rattle.pen_put.specs.Lines.{Put}
use Rattle.report_graph.specs.Numbers.{Numbers, text_of}

-- The report of the graph now stands in the first len bytes of the buffer.
pub record Reported (g : Plan) (before : List ℕ) (len : ℕ) (after : List ℕ) : Type 0 where
  pub values : Measures
  pub ring : List ℕ
  pub wait : ℕ → ℕ
  pub numbers : Numbers g values ring wait
  pub put : Put before 0 (text_of g values ring wait) after len
