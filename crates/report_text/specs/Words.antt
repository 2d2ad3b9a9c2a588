-- The words of the report.
use Rattle.std.specs.Prelude.{ℕ, List}
use Rattle.little.specs.Text.{bytes}

abbrev pub ops_word : List ℕ
ops_word = bytes "ops "

abbrev pub edges_word : List ℕ
edges_word = bytes " edges "

abbrev pub transitions_word : List ℕ
transitions_word = bytes " transitions "

abbrev pub places_word : List ℕ
places_word = bytes " places "

abbrev pub tbo_word : List ℕ
tbo_word = bytes "TBO "

abbrev pub slash_word : List ℕ
slash_word = bytes "/"

abbrev pub tbio_word : List ℕ
tbio_word = bytes "TBIO "

abbrev pub tt_word : List ℕ
tt_word = bytes "TT "

abbrev pub tce_word : List ℕ
tce_word = bytes "TCE "

abbrev pub circuit_word : List ℕ
circuit_word = bytes "circuit"

abbrev pub blank_word : List ℕ
blank_word = bytes " "

abbrev pub wait_word : List ℕ
wait_word = bytes "wait "

abbrev pub refused_word : List ℕ
refused_word = bytes "refused "

abbrev pub at_word : List ℕ
at_word = bytes " at "
