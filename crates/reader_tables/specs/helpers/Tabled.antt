-- The edge table as four arrays.
use Rattle.std.specs.Prelude.{ℕ, List}
use Rattle.net.specs.Limits.{most_edges}
use Rattle.file_trailer.specs.File.{edge_byte}
use Rattle.reader_tables.specs.Filled.{Filled}

-- Byte k of each of the file's first n edges, as an array.
abbrev pub EdgeBytes : List ℕ → ℕ → ℕ → List ℕ → Type 0
EdgeBytes f n k xs = Filled n most_edges (λ (e : ℕ). edge_byte f e k) xs

-- The four bytes of each of the file's first n edges; with none, the arrays are all 0.
pub record Tabled (f : List ℕ) (n : ℕ) (a b c d : List ℕ) : Type 0 where
  pub from : EdgeBytes f n 0 a
  pub to : EdgeBytes f n 1 b
  pub mark : EdgeBytes f n 2 c
  pub buffers : EdgeBytes f n 3 d
