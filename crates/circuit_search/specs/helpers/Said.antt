-- What is said of the listed places.
use Rattle.std.specs.Prelude.{List, ℕ}
use Rattle.circuit_tight.specs.helpers.Entries.{sources, targets}
use Rattle.circuit_search.specs.declared.Ways.{Ways}

-- A word over their counts and ends.
abbrev pub of_ways : {A : Type 1} → (ℕ → ℕ → List ℕ → List ℕ → A) → Ways → A
of_ways W w = W w.transitions w.places (sources w.lists.now.entries) (targets w.lists.now.entries)
