-- What is said of a worked graph, and what each sentence means in the words of the contracts.
use Rattle.std.specs.Prelude.{◌≡◌, List, ◌++◌, ◌<◌, ◌≤◌, ℕ, drop, length, Ok, Err}
use Rattle.refusal.specs.declared.Reason.{Reason}
use Rattle.refusal.specs.declared.Refusal.{Refusal}
use Rattle.marked.specs.Net.{at}
use Rattle.net.specs.Plan.{Plan}
use Rattle.net.specs.Graph.{net_of, start_of, times_of}
use Rattle.file_trailer.specs.File.{plan_of}
use Rattle.reader.specs.Reply.{LookReply, shown}
use Rattle.reader.specs.declared.graph.Graph.{Graph}
use Rattle.stepping.specs.Replies.{RunReply, StartReply, StepReply}
use Rattle.waiting.specs.Reply.{WaitReply}
use Rattle.tbo.specs.TBO.{TBO}
use Rattle.paths_finish.specs.Longest.{TBIO, TT}
use Rattle.circuit.specs.Chosen.{Chosen}
use Rattle.bounds_graph.specs.declared.reply.Measures.{Measures}
use Rattle.report.specs.Reply.{ReportReply}
use Rattle.report_graph.specs.Numbers.{Numbers, text_of}
use Rattle.report_text.specs.Room.{report_bytes}

-- The refusal for the reason k, at x.
abbrev pub by : Reason → ℕ → Refusal
by k x = record { reason = k; place = x }

-- Look refuses the file, by k at x.
abbrev pub LookRefuses : List ℕ → Reason → ℕ → Type 0
LookRefuses f k x = LookReply f (Err (by k x))

-- Look accepts the file, and P holds of the graph that it replies with.
pub record Of (f : List ℕ) (P : Plan → Type 0) : Type 0 where
  pub graph : Graph
  pub look : LookReply f (Ok graph)
  pub holds : P (shown graph)

-- m is the marking that start leaves in a buffer.
pub record Begun (f m : List ℕ) : Type 0 where
  pub buffer : List ℕ
  pub start : StartReply f buffer (Ok tt) m

-- A step with t from the start is refused by k at x, and nothing is written.
pub record StepRefuses (f : List ℕ) (t : ℕ) (k : Reason) (x : ℕ) : Type 0 where
  pub marking : List ℕ
  pub begun : Begun f marking
  pub reply : StepReply f marking t (Err (by k x)) marking

-- From the start with something done to its bytes, every step, run and wait is refused by k at x; nothing is written, and nothing fires.
pub record MarkingRefused (f : List ℕ) (done : List ℕ → List ℕ) (k : Reason) (x : ℕ) : Type 0 where
  pub marking : List ℕ
  pub begun : Begun f marking
  pub step : (t : ℕ) → StepReply f (done marking) t (Err (by k x)) (done marking)
  pub run : (list : List ℕ) → RunReply f (done marking) list (record { fired = 0; end = Err (by k x) }) (done marking)
  pub wait : (t : ℕ) → WaitReply f (done marking) t (Err (by k x))

-- A way along edges of the algorithm graph, one at least, from one node to another.
pub data Along (g : Plan) : ℕ → ℕ → Type 0 where
  edge : (e : ℕ) → e < g.edges → Along g (g.from e) (g.to e)
  onward : {b : ℕ} (e : ℕ) → e < g.edges → Along g (g.to e) b → Along g (g.from e) b

-- The algorithm graph has no directed circuit.
abbrev pub NoCircuit : Plan → Type 0
NoCircuit g = (v : ℕ) → Along g v v → ⊥

-- The circuit that is handed out: of those that attain TBO, the first.
pub record TheCircuit (g : Plan) (ps : List ℕ) : Type 0 where
  pub above : ℕ
  pub below : ℕ
  pub tbo : TBO g above below
  pub chosen : Chosen (net_of g) (start_of g) (times_of g) above below ps

-- The report of the file: its numbers, and its text, which is what `report` writes at the beginning of every buffer that has room.
pub record ReportIs (f : List ℕ) (v : Measures) (ring waits text : List ℕ) : Type 0 where
  pub numbers : Of f (λ g. Numbers g v ring (at waits))
  pub says : text_of (shown numbers.graph) v ring (at waits) ≡ text
  pub reply : (before : List ℕ) → report_bytes ≤ length before → ReportReply f before (Ok (length text)) (text ++ drop (length text) before)

-- The sentences.
pub data Said : Type 0 where
  refused : Reason → ℕ → Said
  no_circuit : Said
  step_refused : ℕ → Reason → ℕ → Said
  marking_refused : (List ℕ → List ℕ) → Reason → ℕ → Said
  tbo_is : ℕ → ℕ → Said
  tbio_is : ℕ → Said
  tt_is : ℕ → Said
  circuit_is : List ℕ → Said
  report_is : Measures → List ℕ → List ℕ → List ℕ → Said

-- What each sentence means of a file.
abbrev pub Holds : List ℕ → Said → Type 0
Holds f (refused k x) = LookRefuses f k x
Holds f no_circuit = NoCircuit (plan_of f)
Holds f (step_refused t k x) = StepRefuses f t k x
Holds f (marking_refused done k x) = MarkingRefused f done k x
Holds f (tbo_is a b) = Of f (λ g. TBO g a b)
Holds f (tbio_is r) = Of f (λ g. TBIO g r)
Holds f (tt_is r) = Of f (λ g. TT g r)
Holds f (circuit_is ps) = Of f (λ g. TheCircuit g ps)
Holds f (report_is v ring waits text) = ReportIs f v ring waits text
