-- What `start`, `step` and `run` reply, over look's reply, and the bytes that they leave.
use Rattle.std.specs.Prelude.{◌≡◌, List, ◌<◌, ℕ, Err, Ok}
use Rattle.refusal.specs.declared.Refusal.{Refusal}
use Rattle.marked.specs.Net.{at}
use Rattle.net.specs.Plan.{Plan}
use Rattle.net.specs.Graph.{net_of, start_of}
use Rattle.reader.specs.Reply.{shown}
use Rattle.reader.specs.Outcome.{Ends, accepted, refusal}
use Rattle.reader.specs.declared.graph.Graph.{Graph}
use Rattle.accepting.specs.Rows.{BytePerPlace, run_rows, start_rows}
use Rattle.firing.specs.Step.{Steps}
use Rattle.running.specs.declared.repeat.Ran.{Ran}
use Rattle.running.specs.Run.{Runs}
use Rattle.refusal.specs.Asking.{Verdict}

-- The bytes z are the starting marking of a graph: one byte a place, its tokens at the start.
pub record AtStart (g : Plan) (z : List ℕ) : Type 0 where
  pub fits : BytePerPlace g z
  pub tokens : (p : ℕ) → p < (net_of g).places → at z p ≡ start_of g p

-- `start` of a file f and a buffer m: the starting marking is written, or a refusal is given, 1 to 10, and nothing is written.
pub data StartReply (f m : List ℕ) : Verdict → List ℕ → Type 0 where
  started : {g : Graph} {z : List ℕ} → Ends f (start_rows m) (accepted g) → AtStart (shown g) z → StartReply f m (Ok tt) z
  refused : {r : Refusal} → Ends f (start_rows m) (refusal r) → StartReply f m (Err r) m

-- `step` of a file f, a marking m and a transition t: a refusal is given, 1 to 11, and nothing is written; or t is stepped in look's graph: it fires,
-- or 12 or 13 is given.
pub data StepReply (f m : List ℕ) (t : ℕ) : Verdict → List ℕ → Type 0 where
  stepped : {g : Graph} {a : Verdict} {z : List ℕ} → Ends f (run_rows m) (accepted g) → Steps (net_of (shown g)) m t a z → StepReply f m t a z
  refused : {r : Refusal} → Ends f (run_rows m) (refusal r) → StepReply f m t (Err r) m

-- `run` of a file f, a marking m and a list of transitions: a refusal is given, 1 to 11, with no firing, and nothing is written; or the list is run in
-- look's graph.
pub data RunReply (f m list : List ℕ) : Ran → List ℕ → Type 0 where
  ran : {g : Graph} {r : Ran} {z : List ℕ} → Ends f (run_rows m) (accepted g) → Runs (net_of (shown g)) m list r.fired r.end z → RunReply f m list r z
  refused : {r : Refusal} → Ends f (run_rows m) (refusal r) → RunReply f m list (record { fired = 0; end = Err r }) m
