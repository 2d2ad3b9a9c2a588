-- What a call leaves in the memory that is lent to it, also where its line is not written.
use Rattle.std.specs.Prelude.{◌≡◌, ◌≢◌, ℕ, List, Result}
use Rattle.refusal.specs.declared.Refusal.{Refusal}
use Rattle.records_marking.specs.Lines.{RunLeaves, StartLeaves, StepLeaves}
use Rattle.bounds_graph.specs.declared.reply.Measures.{Measures}
use Rattle.bounds.specs.Reply.{BoundsReply}
use Rattle.report_graph.specs.declared.reply.RefusedReport.{RefusedReport}
use Rattle.report.specs.Reply.{ReportReply}
use Rattle.records.specs.Called.{first_of}

-- bounds, in the circuit buffer: what some reply that its contract allows goes with
abbrev pub BoundsLeaves : List ℕ → List ℕ → List ℕ → Type 0
BoundsLeaves f before after = (r : Result Measures Refusal) × BoundsReply f before r after

-- report, in its buffer
abbrev pub ReportLeaves : List ℕ → List ℕ → List ℕ → Type 0
ReportLeaves f before after = (r : Result ℕ RefusedReport) × ReportReply f before r after

-- The call that a letter names, in its list and its marking: S, T and R write the marking, B the list, and any other neither.
pub data Leaves (letter : ℕ) (file list list' marking marking' : List ℕ) : Type 0 where
  start : letter ≡ 83 → list' ≡ list → StartLeaves file marking marking' → Leaves letter file list list' marking marking'
  step : letter ≡ 84 → list' ≡ list → StepLeaves file marking (first_of list) marking' → Leaves letter file list list' marking marking'
  run : letter ≡ 82 → list' ≡ list → RunLeaves file marking list marking' → Leaves letter file list list' marking marking'
  bounds : letter ≡ 66 → BoundsLeaves file list list' → marking' ≡ marking → Leaves letter file list list' marking marking'
  other : letter ≢ 83 → letter ≢ 84 → letter ≢ 82 → letter ≢ 66 → list' ≡ list → marking' ≡ marking → Leaves letter file list list' marking marking'
