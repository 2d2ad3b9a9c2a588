-- What identifies an operation: its position in the table. Files that differ only in label bytes, and files that hold the same tables in the other order.
use Rattle.std.specs.Prelude.{ℕ, ◌+◌, ◌*◌, ◌-◌, ◌≤◌, ◌<◌, ◌≡◌, List, length}
use Rattle.little.specs.Little.{byte_at}
use Rattle.net.specs.Limits.{Within}
use Rattle.net.specs.Plan.{Agree}
use Rattle.file_trailer.specs.Limits.{operation_bytes}
use Rattle.file_trailer.specs.File.{operations_at, operations_of, plan_of, trailer_at}
use Rattle.file.specs.Frame.{Framed}

-- Byte p is a label's: it stands before the trailer, and is one of bytes 4 to 11 of a record of the operation table
-- that the trailer tells, be the file accepted or refused.
pub record Label (f : List ℕ) (p : ℕ) : Type 0 where
  pub before : p < trailer_at f
  pub operation : ℕ
  pub inside : Within 1 (operations_of f) operation
  pub low : operations_at f + operation_bytes * (operation - 1) + 4 ≤ p
  pub high : p < operations_at f + operation_bytes * operation

-- The two files differ in label bytes only.
pub record SameButLabels (f g : List ℕ) : Type 0 where
  pub long : length f ≡ length g
  pub same : (p : ℕ) → (Label f p → ⊥) → byte_at f p ≡ byte_at g p

-- Two files with their frame hold the same graph, with their tables in either order and whatever the labels.
pub record SameGraph (f g : List ℕ) : Type 0 where
  pub left : Framed f
  pub right : Framed g
  pub plans : Agree (plan_of f) (plan_of g)
