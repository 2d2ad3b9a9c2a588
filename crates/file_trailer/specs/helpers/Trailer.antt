-- What the trailer's reader answers.
use Rattle.std.specs.Prelude.{◌≡◌, ℕ, List}
use Rattle.file_trailer.specs.File.{back_of, edges_at, edges_of, operations_at, operations_of}
use Rattle.file_trailer.specs.declared.Trailer.{Trailer}

-- t holds the numbers of the file's trailer.
pub record TrailerOf (f : List ℕ) (t : Trailer) : Type 0 where
  pub optable : t.optable ≡ operations_at f
  pub operations : t.operations ≡ operations_of f
  pub edgetable : t.edgetable ≡ edges_at f
  pub edges : t.edges ≡ edges_of f
  pub back : t.back ≡ back_of f
