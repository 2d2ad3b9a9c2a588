-- The loop fills the entries from the front, and those behind are 0.
use Rattle.reader_tables.proofs.Filling.{filled_none}
use Rattle.reader_tables.proofs.Tables.times.Goals as goal

pub loop-i-init : goal.loop-i-init
loop-i-init c = filled_none 40 _
