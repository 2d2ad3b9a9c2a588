-- The loop fills the entries from the front, and those behind are 0.
use Prim.Native.Nat.{◌+◌}
use Rattle.reader_tables.specs.Filled.{Filled}
use Rattle.file_trailer.specs.File.{operation_time}
use Rattle.reader_tables.proofs.Tables.times.Given as goal

abbrev pub invariant-loop-i : goal.invariant-loop-i
invariant-loop-i l = Filled l.i 40 (λ y. operation_time l.self.file.now (y + 1)) l.xs
