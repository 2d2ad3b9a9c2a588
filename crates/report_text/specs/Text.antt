-- The report's text, line by line. A text is a list of bytes; `item` is a word and a number, `item_line` and `pair_line` are lines of one and of two.
use Rattle.std.specs.Prelude.{ℕ, ◌+◌, ◌*◌, List, ◌++◌, length}
use Rattle.marked.specs.Net.{at}
use Rattle.pen_put.specs.Lines.{line_end, item, item_line, pair_line, series}
use Rattle.report_text.specs.Words.{ops_word, edges_word, transitions_word, places_word, tbo_word, slash_word, tbio_word, tt_word, tce_word}
use Rattle.report_text.specs.Words.{circuit_word, blank_word, wait_word, refused_word, at_word}

-- The four counts of N operations and E edges: `ops N edges E transitions 3N+2 places 3N+2E`.
unfoldable pub ops_line : ℕ → ℕ → List ℕ
ops_line n e = item ops_word n ++ (item edges_word e ++ pair_line transitions_word (3 * n + 2) places_word (3 * n + 2 * e))

-- TBO as numerator and denominator: `TBO A/B`.
abbrev pub tbo_line : ℕ → ℕ → List ℕ
tbo_line a b = pair_line tbo_word a slash_word b

-- TBO, then the three sums: `TBIO X`, `TT Y`, `TCE Z`.
unfoldable pub bound_lines : ℕ → ℕ → ℕ → ℕ → ℕ → List ℕ
bound_lines a b x y z = tbo_line a b ++ (item_line tbio_word x ++ (item_line tt_word y ++ item_line tce_word z))

-- The circuit's i-th place behind a blank.
abbrev pub ring_place : List ℕ → ℕ → List ℕ
ring_place ring i = item blank_word (at ring i)

-- Each place of the circuit behind a blank.
unfoldable pub ring_places : List ℕ → List ℕ
ring_places ring = series (ring_place ring) (length ring)

-- The circuit's places in travel order: `circuit P Q ..`.
unfoldable pub circuit_line : List ℕ → List ℕ
circuit_line ring = circuit_word ++ (ring_places ring ++ line_end)

-- All lines before the waits.
unfoldable pub head_text : ℕ → ℕ → ℕ → ℕ → ℕ → ℕ → ℕ → List ℕ → List ℕ
head_text n e a b x y z ring = ops_line n e ++ (bound_lines a b x y z ++ circuit_line ring)

-- A transition and its wait: `wait T W`.
abbrev pub wait_line : ℕ → ℕ → List ℕ
wait_line t w = pair_line wait_word t blank_word w

-- The line of transition t.
abbrev pub wait_of : (ℕ → ℕ) → ℕ → List ℕ
wait_of waits t = wait_line t (waits t)

-- The waits of all transitions of N operations, 0 to 3N+1 in order.
unfoldable pub wait_lines : ℕ → (ℕ → ℕ) → List ℕ
wait_lines n waits = series (wait_of waits) (3 * n + 2)

-- The report of an accepted file: its counts N and E, its bounds A/B, X, Y and Z, its circuit, and each transition's wait.
unfoldable pub report_text : ℕ → ℕ → ℕ → ℕ → ℕ → ℕ → ℕ → List ℕ → (ℕ → ℕ) → List ℕ
report_text n e a b x y z ring waits = head_text n e a b x y z ring ++ wait_lines n waits

-- The report of a refused file, the refusal's number and its place: `refused K at X`.
abbrev pub refused_line : ℕ → ℕ → List ℕ
refused_line k x = pair_line refused_word k at_word x
