-- The call that a letter names, and what is written of it.
use Rattle.std.specs.Prelude.{◌≡◌, ◌≢◌, Bool, true, false, ℕ, List, ◌++◌, cond, nat_lt, length, get_or, replicate, min, Option, None, Some, Result, Ok, Err}
use Rattle.little.specs.Text.{bytes}
use Rattle.refusal.specs.declared.Refusal.{Refusal}
use Rattle.records_print.specs.Text.{Told, head_text, memory_text, number_text}
use Rattle.records_marking.specs.Lines.{LookLine, RunLine, StartLine, StepLine, WaitLine}
use Rattle.bounds_graph.specs.declared.reply.Measures.{Measures}
use Rattle.bounds.specs.Reply.{BoundsReply}
use Rattle.report_graph.specs.declared.reply.RefusedReport.{RefusedReport}
use Rattle.report.specs.Reply.{ReportReply}

-- bounds: the measures, or a refusal and 0 for each
abbrev pub bounds_values_text : Result Measures Refusal → List ℕ
bounds_values_text (Ok v) =
    head_text (bytes "bounds") None
    ++ (number_text v.numerator ++ (number_text v.denominator ++ (number_text v.tbio ++ (number_text v.tt ++ (number_text v.tce ++ number_text v.length)))))
bounds_values_text (Err r) = head_text (bytes "bounds") (Some r) ++ bytes " 0 0 0 0 0 0"

-- report: the text's length, that of a refusal's one line too
abbrev pub report_values_text : Result ℕ RefusedReport → List ℕ
report_values_text (Ok len) = head_text (bytes "report") None ++ number_text len
report_values_text (Err r) = head_text (bytes "report") (Some r.refusal) ++ number_text r.length

-- What is written of bounds and of report: before and after are the circuit buffer's, and the report buffer's.
abbrev pub BoundsLine : List ℕ → List ℕ → List ℕ → Option (List ℕ) → Option (List ℕ) → Type 0
BoundsLine f before after old new = Told (λ (r : Result Measures Refusal). BoundsReply f before r after) (λ (r : Result Measures Refusal). bounds_values_text r ++ memory_text after) old new

abbrev pub ReportLine : List ℕ → List ℕ → List ℕ → Option (List ℕ) → Option (List ℕ) → Type 0
ReportLine f before after old new = Told (λ (r : Result ℕ RefusedReport). ReportReply f before r after) (λ (r : Result ℕ RefusedReport). report_values_text r ++ memory_text after) old new

-- How long the report's buffer is: 4,096 bytes, or as many as are asked for where these are fewer and not 0.
abbrev pub room_of : ℕ → ℕ
room_of asked = cond (nat_lt 0 asked) (min asked 4096) 4096

-- The report's buffer before the call: each byte is 170.
abbrev pub report_buffer : ℕ → List ℕ
report_buffer asked = replicate (room_of asked) 170

-- The transition asked for: the list's first entry, or one that no graph has.
abbrev pub first_of : List ℕ → ℕ
first_of list = get_or list 0 65535

-- A letter that names no call.
pub record Unnamed (letter : ℕ) : Type 0 where
  pub look : letter ≢ 76
  pub start : letter ≢ 83
  pub step : letter ≢ 84
  pub run : letter ≢ 82
  pub wait : letter ≢ 87
  pub bounds : letter ≢ 66
  pub report : letter ≢ 80

-- What the letters L, S, T, R, W, B and P stand for: the call that is made, of a file, a list and a marking, what it leaves in these two, and the line that is
-- written of it. Of any other letter nothing is written.
pub data Called (letter : ℕ) (file list list' marking marking' : List ℕ) (old new : Option (List ℕ)) : Bool → Type 0 where
  look : letter ≡ 76 → LookLine file old new → Called letter file list list' marking marking' old new true
  start : letter ≡ 83 → StartLine file marking marking' old new → Called letter file list list' marking marking' old new true
  step : {t : ℕ} → letter ≡ 84 → t ≡ first_of list → StepLine file marking t marking' old new → Called letter file list list' marking marking' old new true
  run : letter ≡ 82 → RunLine file marking list marking' old new → Called letter file list list' marking marking' old new true
  wait : {t : ℕ} → letter ≡ 87 → t ≡ first_of list → WaitLine file marking t old new → Called letter file list list' marking marking' old new true
  bounds : letter ≡ 66 → BoundsLine file list list' old new → Called letter file list list' marking marking' old new true
  report : {left : List ℕ} → letter ≡ 80 → ReportLine file (report_buffer (length marking)) left old new → Called letter file list list' marking marking' old new true
  unnamed : Unnamed letter → new ≡ old → Called letter file list list' marking marking' old new false
