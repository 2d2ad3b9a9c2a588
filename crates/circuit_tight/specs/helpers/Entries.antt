-- The entries' parts, each as a list.
use Rattle.std.specs.Prelude.{List, ℕ, map}
use Rattle.circuit_tight.specs.declared.Entry.{Entry}

abbrev pub nexts : List Entry → List ℕ
nexts es = map (λ (e : Entry). e.next) es

abbrev pub sources : List Entry → List ℕ
sources es = map (λ (e : Entry). e.source) es

abbrev pub targets : List Entry → List ℕ
targets es = map (λ (e : Entry). e.target) es
