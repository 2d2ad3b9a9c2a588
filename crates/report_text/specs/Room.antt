-- The room of a report.
use Rattle.std.specs.Prelude.{ℕ}

-- The bytes that a report's buffer must have. (No report is longer: theorem `report_fits_room`.)
abbrev pub report_bytes : ℕ
report_bytes = 4096
