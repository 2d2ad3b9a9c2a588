-- Little-endian numbers of two and of four bytes in a list of bytes.
use Rattle.std.specs.Prelude.{ℕ, ◌+◌, ◌*◌, List, get_or}

-- The byte at a position, 0 past the end.
abbrev pub byte_at : List ℕ → ℕ → ℕ
byte_at f at = get_or f at 0

-- The number of two bytes, the low one first.
unfoldable pub word : List ℕ → ℕ → ℕ
word f at = byte_at f at + 256 * byte_at f (at + 1)

-- The number of four bytes, the low ones first.
unfoldable pub quad : List ℕ → ℕ → ℕ
quad f at = word f at + 65536 * word f (at + 2)
