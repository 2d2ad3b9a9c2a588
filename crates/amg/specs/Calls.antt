-- What each exported function promises: the contract of its call, of a reply that its word tells.
use Rattle.std.specs.Prelude.{◌≡◌, List, ℕ, Result}
use Rattle.std.specs.Result.{result_err}
use Rattle.refusal.specs.Asking.{Verdict}
use Rattle.refusal.specs.declared.Refusal.{Refusal}
use Rattle.reader.specs.declared.graph.Graph.{Graph}
use Rattle.reader.specs.Reply.{LookReply}
use Rattle.running.specs.declared.repeat.Ran.{Ran}
use Rattle.stepping.specs.Replies.{RunReply, StartReply, StepReply}
use Rattle.waiting.specs.Reply.{WaitReply}
use Rattle.bounds_graph.specs.declared.reply.Measures.{Measures}
use Rattle.bounds.specs.Reply.{BoundsReply}
use Rattle.report_graph.specs.declared.reply.RefusedReport.{RefusedReport}
use Rattle.report.specs.Reply.{ReportReply}
use Rattle.amg.specs.Tables.{Tables, shown_in, values_in}
use Rattle.amg_word.specs.Numbers.{bounds_count, report_count, report_refusal, wait_count}
use Rattle.amg_word.specs.Word.{packed}

-- The word w tells a reply that the call's contract allows.
pub record ToldBy {A : Type 0} (word_of : A → ℕ) (May : A → Type 0) (w : ℕ) : Type 0 where
  pub reply : A
  pub allowed : May reply
  pub told : w ≡ word_of reply

-- `amg_look` of a file: the arrays before, the word, and the arrays after.
abbrev pub LookCall : List ℕ → Tables → ℕ → Tables → Type 0
LookCall f before w after =
    ToldBy (λ (r : Result Graph Refusal). packed (result_err r) 0) (λ (r : Result Graph Refusal). LookReply f r × (after ≡ shown_in r before)) w

-- `amg_start` of a file: the marking before, the word, and the marking after.
abbrev pub StartCall : List ℕ → List ℕ → ℕ → List ℕ → Type 0
StartCall f before w after = ToldBy (λ (r : Verdict). packed (result_err r) 0) (λ (r : Verdict). StartReply f before r after) w

-- `amg_step` of a file: the marking before, the transition, the word, and the marking after.
abbrev pub StepCall : List ℕ → List ℕ → ℕ → ℕ → List ℕ → Type 0
StepCall f before t w after = ToldBy (λ (r : Verdict). packed (result_err r) 0) (λ (r : Verdict). StepReply f before t r after) w

-- `amg_run` of a file: the marking before, the list, the word with the firings, and the marking after.
abbrev pub RunCall : List ℕ → List ℕ → List ℕ → ℕ → List ℕ → Type 0
RunCall f before list w after = ToldBy (λ (r : Ran). packed (result_err r.end) r.fired) (λ (r : Ran). RunReply f before list r after) w

-- `amg_wait` of a file, a marking and a transition: the word with the wait.
abbrev pub WaitCall : List ℕ → List ℕ → ℕ → ℕ → Type 0
WaitCall f m t w = ToldBy (λ (r : Result ℕ Refusal). packed (result_err r) (wait_count r)) (λ (r : Result ℕ Refusal). WaitReply f m t r) w

-- `amg_bounds` of a file: the circuit buffer and the five values before, the word with the circuit's length, and both after.
abbrev pub BoundsCall : List ℕ → List ℕ → List ℕ → ℕ → List ℕ → List ℕ → Type 0
BoundsCall f before values w after values' =
    ToldBy (λ (r : Result Measures Refusal). packed (result_err r) (bounds_count r))
    (λ (r : Result Measures Refusal). BoundsReply f before r after × (values' ≡ values_in r values)) w

-- `amg_report` of a file: the buffer before, the word with the text's length, and the buffer after.
abbrev pub ReportCall : List ℕ → List ℕ → ℕ → List ℕ → Type 0
ReportCall f before w after = ToldBy (λ (r : Result ℕ RefusedReport). packed (report_refusal r) (report_count r)) (λ (r : Result ℕ RefusedReport). ReportReply f before r after) w
