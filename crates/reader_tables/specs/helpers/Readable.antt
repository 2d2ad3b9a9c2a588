-- A file whose tables can be read.
use Rattle.std.specs.Prelude.{ℕ, ◌+◌, ◌*◌, ◌≤◌, List, length}
use Rattle.net.specs.Limits.{most_edges, most_operations}
use Rattle.file_trailer.specs.File.{edges_at, edges_of, operations_at, operations_of}
use Rattle.file_trailer.specs.Limits.{edge_bytes, operation_bytes}
use Rattle.file_trailer.specs.declared.Trailer.{Trailer}
use Rattle.file_trailer.specs.helpers.Trailer.{TrailerOf}

-- t holds the numbers of the file's trailer, there is room for the counts, and both tables end inside the file.
pub record Readable (f : List ℕ) (t : Trailer) : Type 0 where
  pub numbers : TrailerOf f t
  pub operations : operations_of f ≤ most_operations
  pub edges : edges_of f ≤ most_edges
  pub operations_inside : operations_at f + operation_bytes * operations_of f ≤ length f
  pub edges_inside : edges_at f + edge_bytes * edges_of f ≤ length f
