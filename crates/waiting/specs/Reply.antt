-- What wait replies, over look's reply. Nothing is written.
use Rattle.std.specs.Prelude.{List, ℕ, Err, Ok, Result}
use Rattle.refusal.specs.declared.Refusal.{Refusal}
use Rattle.marked.specs.Net.{at}
use Rattle.marked.specs.Wait.{WaitSum}
use Rattle.net.specs.Graph.{net_of}
use Rattle.reader.specs.Reply.{shown}
use Rattle.reader.specs.Outcome.{Ends, accepted, refusal}
use Rattle.reader.specs.declared.graph.Graph.{Graph}
use Rattle.accepting.specs.Rows.{wait_rows}

-- `wait` of a file f, a marking m and a transition t: a refusal is given, 1 to 12; or, of look's graph, the sum over the other transitions of the
-- fewest tokens on a walk from t to them.
pub data WaitReply (f m : List ℕ) (t : ℕ) : Result ℕ Refusal → Type 0 where
  waits : {g : Graph} {w : ℕ} → Ends f (wait_rows m t) (accepted g) → WaitSum (net_of (shown g)) (at m) t w → WaitReply f m t (Ok w)
  refused : {r : Refusal} → Ends f (wait_rows m t) (refusal r) → WaitReply f m t (Err r)
