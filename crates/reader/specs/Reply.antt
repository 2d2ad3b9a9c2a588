-- What look replies: the graph of a file, or a refusal.
use Rattle.std.specs.Prelude.{ℕ, ◌+◌, ◌≡◌, List, Result, Ok, Err}
use Rattle.refusal.specs.Asking.{Given, Sound}
use Rattle.refusal.specs.declared.Refusal.{Refusal}
use Rattle.net.specs.Limits.{most_edges, most_operations}
use Rattle.net.specs.Plan.{Plan, rows}
use Rattle.file_trailer.specs.File.{operations_of, edges_of, plan_of}
use Rattle.file.specs.Frame.{look_rows}
use Rattle.reader_tables.specs.Filled.{Filled}
use Rattle.reader.specs.declared.graph.Graph.{Graph}

-- g shows the first n operations and the first e edges of the plan, and nothing else.
pub record Shows (p : Plan) (n e : ℕ) (g : Graph) : Type 0 where
  pub operations : g.operations ≡ n
  pub edges : g.edges ≡ e
  pub times : Filled n most_operations (λ (i : ℕ). p.time (i + 1)) g.times
  pub from : Filled e most_edges p.from g.from
  pub to : Filled e most_edges p.to g.to
  pub mark : Filled e most_edges p.mark g.mark
  pub buffers : Filled e most_edges p.buffers g.buffers

-- The reply to a file: its graph, where its rows, 1 to 9, are all kept, else the refusal that is given.
pub data LookReply (f : List ℕ) : Result Graph Refusal → Type 0 where
  looked : {g : Graph} → Sound (look_rows f) → Shows (plan_of f) (operations_of f) (edges_of f) g → LookReply f (Ok g)
  declined : {r : Refusal} → Given (look_rows f) r → LookReply f (Err r)

-- The plan that a reply's graph shows: all that the crates above know of a file.
abbrev pub shown : Graph → Plan
shown g = rows g.operations g.edges g.times g.from g.to g.mark g.buffers
