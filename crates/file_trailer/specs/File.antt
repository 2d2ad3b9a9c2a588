-- Where the numbers of a file stand. A file is the list of its bytes.
use Rattle.std.specs.Prelude.{ℕ, ◌+◌, ◌*◌, ◌-◌, List, length}
use Rattle.little.specs.Little.{byte_at, quad, word}
use Rattle.net.specs.Plan.{Plan}
use Rattle.file_trailer.specs.Limits.{edge_bytes, operation_bytes, trailer_bytes}

-- The trailer stands at the end.
unfoldable pub trailer_at : List ℕ → ℕ
trailer_at f = length f - trailer_bytes

-- The offset of the operation table.
unfoldable pub operations_at : List ℕ → ℕ
operations_at f = word f (trailer_at f)

-- N, how many operations there are.
unfoldable pub operations_of : List ℕ → ℕ
operations_of f = word f (trailer_at f + 2)

-- The offset of the edge table.
unfoldable pub edges_at : List ℕ → ℕ
edges_at f = word f (trailer_at f + 4)

-- E, how many edges there are.
unfoldable pub edges_of : List ℕ → ℕ
edges_of f = word f (trailer_at f + 6)

-- The distance back from the trailer to the first byte.
unfoldable pub back_of : List ℕ → ℕ
back_of f = word f (trailer_at f + 8)

-- The time of operation i: the first 4 bytes of its record. Operations are numbered from 1.
unfoldable pub operation_time : List ℕ → ℕ → ℕ
operation_time f i = quad f (operations_at f + operation_bytes * (i - 1))

-- Byte k of edge e: 0 is from, 1 is to, 2 is the mark, 3 is the fourth. Edges are numbered from 0.
unfoldable pub edge_byte : List ℕ → ℕ → ℕ → ℕ
edge_byte f e k = byte_at f (edges_at f + edge_bytes * e + k)

-- The graph that the two tables hold. A label is no part of it.
abbrev pub plan_of : List ℕ → Plan
plan_of f =
    record {
      operations = operations_of f;
      edges = edges_of f;
      time = operation_time f;
      from = λ (e : ℕ). edge_byte f e 0;
      to = λ (e : ℕ). edge_byte f e 1;
      mark = λ (e : ℕ). edge_byte f e 2;
      buffers = λ (e : ℕ). edge_byte f e 3;
    }
