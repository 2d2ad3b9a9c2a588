-- The lines of the calls on a graph and its marking: the text of each reply, and that a line tells one that the call's contract allows.
use Rattle.std.specs.Prelude.{ℕ, List, ◌++◌, Option, None, Some, Result, Ok, Err}
use Rattle.std.specs.Result.{result_err}
use Rattle.little.specs.Text.{bytes}
use Rattle.refusal.specs.Asking.{Verdict}
use Rattle.refusal.specs.declared.Refusal.{Refusal}
use Rattle.pen_put.specs.Lines.{series}
use Rattle.records_print.specs.Text.{Told, entry_text, head_text, memory_text, number_text}
use Rattle.reader.specs.Reply.{LookReply}
use Rattle.reader.specs.declared.graph.Graph.{Graph}
use Rattle.running.specs.declared.repeat.Ran.{Ran}
use Rattle.stepping.specs.Replies.{RunReply, StartReply, StepReply}
use Rattle.waiting.specs.Reply.{WaitReply}

-- the first n times
abbrev pub times_text : List ℕ → ℕ → List ℕ
times_text times n = series (entry_text times) n

-- edge e: from, to and mark
abbrev pub row_text : List ℕ → List ℕ → List ℕ → ℕ → List ℕ
row_text from to mark e = entry_text from e ++ (entry_text to e ++ entry_text mark e)

-- the first n edges
abbrev pub rows_text : List ℕ → List ℕ → List ℕ → ℕ → List ℕ
rows_text from to mark n = series (row_text from to mark) n

-- look: a graph, or a refusal; nothing but the file is lent to it
abbrev pub graph_text : Graph → List ℕ
graph_text g =
    head_text (bytes "look") None
    ++ (number_text g.operations ++ (number_text g.edges ++ (times_text g.times g.operations ++ (rows_text g.from g.to g.mark g.edges ++ bytes " memory\n"))))

abbrev pub look_text : Result Graph Refusal → List ℕ
look_text (Ok g) = graph_text g
look_text (Err r) = head_text (bytes "look") (Some r) ++ bytes " memory\n"

-- start, of a reply and the marking afterwards
abbrev pub start_text : Verdict → List ℕ → List ℕ
start_text r after = head_text (bytes "start") (result_err r) ++ memory_text after

-- step
abbrev pub step_text : Verdict → List ℕ → List ℕ
step_text r after = head_text (bytes "step") (result_err r) ++ memory_text after

-- run, with the firings
abbrev pub run_text : Ran → List ℕ → List ℕ
run_text r after = head_text (bytes "run") (result_err r.end) ++ (number_text r.fired ++ memory_text after)

-- wait, with the wait; the marking stays as it is
abbrev pub wait_values_text : Result ℕ Refusal → List ℕ
wait_values_text (Ok firings) = head_text (bytes "wait") None ++ number_text firings
wait_values_text (Err r) = head_text (bytes "wait") (Some r) ++ number_text 0

abbrev pub wait_text : Result ℕ Refusal → List ℕ → List ℕ
wait_text r marking = wait_values_text r ++ memory_text marking

-- What is written of a call on a file f: before and after are the marking's, old and new the bytes that the writer holds.
abbrev pub LookLine : List ℕ → Option (List ℕ) → Option (List ℕ) → Type 0
LookLine f old new = Told (λ (r : Result Graph Refusal). LookReply f r) (λ (r : Result Graph Refusal). look_text r) old new

abbrev pub StartLine : List ℕ → List ℕ → List ℕ → Option (List ℕ) → Option (List ℕ) → Type 0
StartLine f before after old new = Told (λ (r : Verdict). StartReply f before r after) (λ (r : Verdict). start_text r after) old new

abbrev pub StepLine : List ℕ → List ℕ → ℕ → List ℕ → Option (List ℕ) → Option (List ℕ) → Type 0
StepLine f before t after old new = Told (λ (r : Verdict). StepReply f before t r after) (λ (r : Verdict). step_text r after) old new

abbrev pub RunLine : List ℕ → List ℕ → List ℕ → List ℕ → Option (List ℕ) → Option (List ℕ) → Type 0
RunLine f before list after old new = Told (λ (r : Ran). RunReply f before list r after) (λ (r : Ran). run_text r after) old new

abbrev pub WaitLine : List ℕ → List ℕ → ℕ → Option (List ℕ) → Option (List ℕ) → Type 0
WaitLine f marking t old new = Told (λ (r : Result ℕ Refusal). WaitReply f marking t r) (λ (r : Result ℕ Refusal). wait_text r marking) old new

-- What a call leaves in the marking, also where its line is not written: what some reply that its contract allows goes with.
abbrev pub StartLeaves : List ℕ → List ℕ → List ℕ → Type 0
StartLeaves f before after = (r : Verdict) × StartReply f before r after

abbrev pub StepLeaves : List ℕ → List ℕ → ℕ → List ℕ → Type 0
StepLeaves f before t after = (r : Verdict) × StepReply f before t r after

abbrev pub RunLeaves : List ℕ → List ℕ → List ℕ → List ℕ → Type 0
RunLeaves f before list after = (r : Ran) × RunReply f before list r after
