-- What the program prints.
use Rattle.std.specs.Prelude.{List, ℕ, take, replicate, IfSome, Result}
use Rattle.std.specs.declared.option.Option.{Option}
use Rattle.std.specs.Io.KnownBytes.{Appends}
use Rattle.report_graph.specs.Length.{length_of}
use Rattle.report_graph.specs.declared.reply.RefusedReport.{RefusedReport}
use Rattle.report.specs.Reply.{ReportReply}

-- The text of a reply such as report's contract allows for a file and a buffer of 4,096 bytes. The writer held the bytes `old` and holds the bytes `new`.
pub record Printed (file : List ℕ) (old new : Option (List ℕ)) : Type 0 where
  pub reply : Result ℕ RefusedReport
  pub left : List ℕ
  pub allowed : ReportReply file (replicate 4096 0) reply left
  pub written : Appends old new (take (length_of reply) left)

-- The file is the input's first 2,049 bytes: one more than the longest file has.
abbrev pub PrintedOf : Option (List ℕ) → Option (List ℕ) → Option (List ℕ) → Type 0
PrintedOf input old new = IfSome input (λ xs. Printed (take 2049 xs) old new)
