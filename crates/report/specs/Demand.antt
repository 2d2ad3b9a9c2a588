-- The three sentences of the wait through the report: what theorem `report_demand` says of the numbers on its wait lines.
use Rattle.std.specs.Prelude.{◌≡◌, List, ◌++◌, ◌<◌, ℕ, take}
use Rattle.marked.specs.Wait.{Demand3}
use Rattle.net.specs.Graph.{net_of, start_of}
use Rattle.reader.specs.Reply.{shown}
use Rattle.reader.specs.Outcome.{Ends, accepted}
use Rattle.reader.specs.declared.graph.Graph.{Graph}
use Rattle.report_text.specs.Text.{wait_lines}
use Rattle.report.specs.Reply.{report_rows}

-- The first len bytes of the buffer end with a line for each transition of look's graph, in order;
-- the number on each meets the three sentences of the wait from the start, and no other number does.
pub record WaitsPrinted (f after : List ℕ) (len : ℕ) : Type 0 where
  pub graph : Graph
  pub ends : Ends f report_rows (accepted graph)
  pub head : List ℕ
  pub wait : ℕ → ℕ
  pub text : take len after ≡ head ++ wait_lines graph.operations wait
  pub meets : (t : ℕ) → t < (net_of (shown graph)).transitions → Demand3 (net_of (shown graph)) (start_of (shown graph)) t (wait t)
  pub only : (t v : ℕ) → t < (net_of (shown graph)).transitions → Demand3 (net_of (shown graph)) (start_of (shown graph)) t v → v ≡ wait t
