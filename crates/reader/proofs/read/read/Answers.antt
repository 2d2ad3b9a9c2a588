-- The four arrays begin with every entry 0, as the filling asks.
use Rattle.net.specs.Limits.{most_edges}
use Rattle.reader_tables.proofs.Filling.{filled_none}
use Rattle.reader.proofs.read.read.Goals as goal

pub fill_edges-requires : goal.fill_edges-requires
fill_edges-requires c = let row = filled_none most_edges in record { from = row _; to = row _; mark = row _; buffers = row _ }
