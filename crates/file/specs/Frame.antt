-- Rows 1 to 4 of the refusal table, the frame of a file, and the rows of look:
-- what is asked of the file, then what is asked of its graph.
use Rattle.std.specs.Prelude.{ℕ, ◌+◌, ◌*◌, ◌-◌, ◌<◌, ◌≡◌, ◌⊎◌, List, [], ◌++◌, ◌∷◌, length, get_or}
use Rattle.refusal.specs.Asking.{Ask, asked}
use Rattle.little.specs.Little.{byte_at}
use Rattle.little.specs.Text.{bytes}
use Rattle.net.specs.Limits.{Counted}
use Rattle.net.specs.Rules.{graph_rows}
use Rattle.file_trailer.specs.Limits.{FileLength, edge_bytes, operation_bytes}
use Rattle.file_trailer.specs.File.{back_of, edges_at, edges_of, operations_at, operations_of, plan_of, trailer_at}

-- 1: the length is within its limits.
abbrev pub Sized : List ℕ → Type 0
Sized f = FileLength (length f)

-- The bytes AMG1.
abbrev pub magic : List ℕ
magic = bytes "AMG1"

-- The file ends with them.
abbrev pub EndsWithMagic : List ℕ → Type 0
EndsWithMagic f = (i : ℕ) → i < 4 → byte_at f (length f - 4 + i) ≡ get_or magic i 0

-- 2: layout 1, a zero byte, and the file ends with AMG1.
pub record Signed (f : List ℕ) : Type 0 where
  pub layout : byte_at f (trailer_at f + 10) ≡ 1
  pub zero_byte : byte_at f (trailer_at f + 11) ≡ 0
  pub ends : EndsWithMagic f

-- 3: N and E are within their limits.
abbrev pub CountsKept : List ℕ → Type 0
CountsKept f = Counted (operations_of f) (edges_of f)

-- 4: the distance back is right, and the two tables, in either order, fill the bytes before the trailer.
pub record Laid (f : List ℕ) : Type 0 where
  pub back : back_of f ≡ trailer_at f
  pub filled : operation_bytes * operations_of f + edge_bytes * edges_of f ≡ trailer_at f
  pub order : ((operations_at f ≡ 0) × (edges_at f ≡ operation_bytes * operations_of f)) ⊎ ((edges_at f ≡ 0) × (operations_at f ≡ edge_bytes * edges_of f))

-- Rows 1 to 4 together: the file has its frame, and its tables can be read.
pub record Framed (f : List ℕ) : Type 0 where
  pub sized : Sized f
  pub signed : Signed f
  pub counted : CountsKept f
  pub laid : Laid f

-- The rows of the frame, in order.
abbrev pub frame_rows : List ℕ → List Ask
frame_rows f = asked 1 (Sized f) ∷ asked 2 (Signed f) ∷ asked 3 (CountsKept f) ∷ asked 4 (Laid f) ∷ []

-- The rows of look, in order: 1 to 9.
abbrev pub look_rows : List ℕ → List Ask
look_rows f = frame_rows f ++ graph_rows (plan_of f)
