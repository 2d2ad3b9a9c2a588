-- What report replies, over look's reply.
use Rattle.std.specs.Prelude.{List, [], ◌∷◌, ◌≤◌, ℕ, length, Result, Ok, Err}
use Rattle.refusal.specs.Numbers.{number_of}
use Rattle.refusal.specs.Asking.{Ask, Given, Sound, asked}
use Rattle.refusal.specs.declared.Refusal.{Refusal}
use Rattle.net.specs.Plan.{Plan}
use Rattle.reader.specs.Reply.{shown}
use Rattle.reader.specs.Outcome.{Ends, accepted, refusal}
use Rattle.reader.specs.declared.graph.Graph.{Graph}
use Rattle.bounds_graph.specs.declared.reply.Measures.{Measures}
use Rattle.pen_put.specs.Lines.{Put}
use Rattle.report_text.specs.Text.{refused_line}
use Rattle.report_graph.specs.Numbers.{Numbers, text_of}
use Rattle.report_text.specs.Room.{report_bytes}
use Rattle.report_graph.specs.declared.reply.RefusedReport.{RefusedReport}

-- What report asks before it looks at the file: 14.
abbrev pub room_rows : List ℕ → List Ask
room_rows buffer = asked 14 (report_bytes ≤ length buffer) ∷ []

-- Beyond look's own rows, report asks nothing of a graph.
abbrev pub report_rows : Plan → List Ask
report_rows g = []

-- `report` of a file f and a buffer: 14 is given, and nothing is written. Else the text stands at the buffer's beginning, all else is as it was, and len is the
-- text's length: the line with the number and the place of a refusal, 1 to 9, or the report of look's graph.
pub data ReportReply (f before : List ℕ) : Result ℕ RefusedReport → List ℕ → Type 0 where
  short : {r : Refusal} → Given (room_rows before) r → ReportReply f before (Err (record { refusal = r; length = 0 })) before
  refused : {r : Refusal} {len : ℕ} {after : List ℕ} → Sound (room_rows before) → Ends f report_rows (refusal r)
      → Put before 0 (refused_line (number_of r.reason) r.place) after len → ReportReply f before (Err (record { refusal = r; length = len })) after
  written : {g : Graph} {v : Measures} {ring : List ℕ} {wait : ℕ → ℕ} {len : ℕ} {after : List ℕ} → Sound (room_rows before) → Ends f report_rows (accepted g)
      → Numbers (shown g) v ring wait → Put before 0 (text_of (shown g) v ring wait) after len → ReportReply f before (Ok len) after
