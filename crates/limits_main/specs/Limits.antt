-- What the program prints.
use Rattle.std.specs.Prelude.{ℕ, List, ◌++◌}
use Rattle.std.specs.Fmt.{decimal}
use Rattle.little.specs.Text.{bytes}
use Rattle.net.specs.Limits.{longest_time, most_edges, most_operations}

-- a name, the lowest number that is allowed, and the highest
abbrev pub limit_line : List ℕ → ℕ → ℕ → List ℕ
limit_line name lowest highest = name ++ (bytes " " ++ (decimal lowest ++ (bytes " " ++ (decimal highest ++ bytes "\n"))))

-- the limits of a graph, and of its file's length
abbrev pub limits : List ℕ
limits =
    limit_line (bytes "operations") 1 most_operations
    ++ (limit_line (bytes "edges") 2 most_edges ++ (limit_line (bytes "time") 1 longest_time ++ limit_line (bytes "length") 16 2048))
