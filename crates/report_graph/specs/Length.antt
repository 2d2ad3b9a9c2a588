-- The length of what report writes.
use Rattle.std.specs.Prelude.{ℕ, Result, Ok, Err}
use Rattle.report_graph.specs.declared.reply.RefusedReport.{RefusedReport}

-- How many bytes a reply has written.
abbrev pub length_of : Result ℕ RefusedReport → ℕ
length_of (Ok len) = len
length_of (Err r) = r.length
