-- Text put into a buffer, and the texts that lines are made of.
use Rattle.std.specs.Prelude.{◌≡◌, ℕ, zero, suc, ◌+◌, ◌≤◌, List, [], ◌++◌, length}
use Rattle.std.proofs.lemmas.List.Edits.{sets}
use Rattle.little.specs.Text.{bytes}
use Rattle.pen_put.specs.Digits.{digits}

-- the text has room in the buffer from `at` on
pub record HasRoom (buf : List ℕ) (at : ℕ) (text : List ℕ) : Type 0 where
  pub room : at + length text ≤ length buf

-- the buffer before has become the buffer after: the text stands from `at` on, all else is as it was, and `next` is the place behind it
pub record Put (before : List ℕ) (at : ℕ) (text after : List ℕ) (next : ℕ) : Type 0 where
  pub place : next ≡ at + length text
  pub stands : after ≡ sets before at text

-- a line end: the newline byte, 10
unfoldable pub line_end : List ℕ
line_end = bytes "\n"

-- a word and a number
unfoldable pub item : List ℕ → ℕ → List ℕ
item name n = name ++ digits n

-- a line of a word and a number
unfoldable pub item_line : List ℕ → ℕ → List ℕ
item_line name n = item name n ++ line_end

-- a line of a word, a number, a word and a number
unfoldable pub pair_line : List ℕ → ℕ → List ℕ → ℕ → List ℕ
pair_line name m bar n = item name m ++ item_line bar n

-- the texts of 0, 1, .. n - 1, one behind the other
abbrev pub series : (ℕ → List ℕ) → ℕ → List ℕ
series text zero = []
series text (suc n) = series text n ++ text n
