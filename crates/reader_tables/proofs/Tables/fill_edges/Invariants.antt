-- The loop fills the four arrays from the front, and their entries behind are 0.
use Rattle.reader_tables.specs.helpers.Tabled.{Tabled}
use Rattle.reader_tables.proofs.Tables.fill_edges.Given as goal

abbrev pub invariant-loop-e : goal.invariant-loop-e
invariant-loop-e l = Tabled l.self.file.now l.e l.from l.to l.mark l.buffers
