-- What the program prints.
use Rattle.std.specs.Prelude.{ℕ, List, [], ◌∷◌, ◌++◌, length, get_or}
use Rattle.little.specs.Text.{bytes}
use Rattle.pen_put.specs.Lines.{line_end, item, item_line, pair_line, series}

-- a number of the list behind a blank
abbrev pub blank_item : List ℕ → ℕ → List ℕ
blank_item ns i = item (bytes " ") (get_or ns i 0)

-- each number of the list behind a blank
unfoldable pub number_row : List ℕ → List ℕ
number_row ns = series (blank_item ns) (length ns)

-- the lines `TCE 0`, `TBO 18446744073709551615/10` and `circuit` with each number of the list
unfoldable pub page : List ℕ → List ℕ
page ns = item_line (bytes "TCE ") 0 ++ (pair_line (bytes "TBO ") 18446744073709551615 (bytes "/") 10 ++ (bytes "circuit" ++ (number_row ns ++ line_end)))

-- the numbers that the program shows: the smallest, the last of one digit, the first of two, and the largest
abbrev pub shown : List ℕ
shown = 0 ∷ 9 ∷ 10 ∷ 18446744073709551615 ∷ []
