-- What a reply has written stands within the buffer: `report_within`.
use Rattle.std.proofs.Common.{sym, length-take-le, arith}
use Rattle.report.proofs.Theorems.{report_within}
use Rattle.report_main.proofs.print.Goals as goal

pub slice_bounds-text-end : goal.slice_bounds-text-end
slice_bounds-text-end g c = omega (arith, c.length-length.ensures, report_within c.report-reply.ensures)

pub slice_bounds-write_all-end : goal.slice_bounds-write_all-end
slice_bounds-write_all-end g c = sym (length-take-le _ _ (omega (arith, c.length-length.ensures, report_within c.report-reply.ensures)))
