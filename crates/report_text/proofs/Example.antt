-- The text of a graph of one operation of time 5, byte for byte, and that of a refused file.
use mathlib.Core.Path.{◌≡◌, refl}
use Prim.Native.Nat.{ℕ}
use mathlib.Core.List.{List, [], ◌∷◌, ◌++◌}
use Rattle.marked.specs.Net.{at}
use Rattle.little.specs.Text.{bytes}
use Rattle.pen_put.specs.Digits.{digits_by, digits}
use Rattle.pen_put.specs.Lines.{line_end, item, item_line, pair_line}
use Rattle.report_text.specs.Text.{ops_line, bound_lines, ring_places, circuit_line, head_text, wait_lines, report_text, refused_line}

abbrev pub one : List ℕ
one =
    bytes "ops 1 edges 2 transitions 5 places 7\n" ++ (bytes "TBO 5/1\nTBIO 5\nTT 5\nTCE 5\n" ++
    (bytes "circuit 0 1 2\n" ++ bytes "wait 0 0\nwait 1 1\nwait 2 3\nwait 3 4\nwait 4 8\n"))

pub one_report : report_text 1 2 5 1 5 5 5 (0 ∷ 1 ∷ 2 ∷ []) (at (0 ∷ 1 ∷ 3 ∷ 4 ∷ 8 ∷ [])) ≡ one
unfolding digits_by digits line_end item item_line pair_line ops_line bound_lines ring_places circuit_line head_text wait_lines report_text
one_report = refl

pub refused_report : refused_line 9 3 ≡ bytes "refused 9 at 3\n"
unfolding digits_by digits line_end item item_line pair_line
refused_report = refl
