-- How a worked graph is written as a file.
use Rattle.std.specs.Prelude.{List, [], ◌∷◌, ◌++◌, ◌%◌, ◌*◌, ◌+◌, ◌/◌, ℕ, length, replicate}
use Rattle.file_trailer.specs.Limits.{edge_bytes, operation_bytes}
use Rattle.file.specs.Frame.{magic}

-- An edge from one node to another, without a mark, or with one (a star in samples/graphs.txt).
pub data Arrow : Type 0 where
  plain : ℕ → ℕ → Arrow
  star : ℕ → ℕ → Arrow

-- A number below 65,536 as two bytes, the low one first.
abbrev pub two : ℕ → List ℕ
two n = n % 256 ∷ n / 256 ∷ []

-- The record of an operation: four bytes of time (here it is below 65,536) and eight of a label.
abbrev pub operation_record : ℕ → List ℕ
operation_record time = two time ++ two 0 ++ replicate 8 0

-- The record of an edge: from, to, mark, zero.
abbrev pub edge_record : Arrow → List ℕ
edge_record (plain a b) = a ∷ b ∷ 0 ∷ 0 ∷ []
edge_record (star a b) = a ∷ b ∷ 1 ∷ 0 ∷ []

-- Records one after the other.
abbrev pub records : {A : Type 0} → (A → List ℕ) → List A → List ℕ
records write [] = []
records write (x ∷ xs) = write x ++ records write xs

-- The trailer of n operations and e edges: the operations at 0, the edges behind them, both counts, the distance back, layout 1, zero, AMG1.
abbrev pub trailer : ℕ → ℕ → List ℕ
trailer n e = two 0 ++ two n ++ two (operation_bytes * n) ++ two e ++ two (operation_bytes * n + edge_bytes * e) ++ (1 ∷ 0 ∷ magic)

-- The file of operations with these times and of these edges.
abbrev pub file_of : List ℕ → List Arrow → List ℕ
file_of times edges = records operation_record times ++ records edge_record edges ++ trailer (length times) (length edges)
