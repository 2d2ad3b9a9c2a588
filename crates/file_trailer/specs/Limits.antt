-- The sizes that a file is made of, and the limits of its length.
use Rattle.std.specs.Prelude.{ℕ}
use Rattle.net.specs.Limits.{Within}

-- The bytes of the trailer.
abbrev pub trailer_bytes : ℕ
trailer_bytes = 16

-- The bytes of an operation's record: time, label.
abbrev pub operation_bytes : ℕ
operation_bytes = 12

-- The bytes of an edge's record: from, to, mark, zero.
abbrev pub edge_bytes : ℕ
edge_bytes = 4

-- The longest file, in bytes.
abbrev pub longest_file : ℕ
longest_file = 2048

-- The length of a file: its trailer at least.
abbrev pub FileLength : ℕ → Type 0
FileLength l = Within trailer_bytes longest_file l
