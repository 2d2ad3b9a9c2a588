-- What look and bounds tell beyond the word: in arrays that the caller lends.
use Rattle.std.specs.Prelude.{List, [], ◌∷◌, ℕ, Result, Ok, Err}
use Rattle.refusal.specs.declared.Refusal.{Refusal}
use Rattle.reader.specs.declared.graph.Graph.{Graph}
use Rattle.amg_word.specs.Numbers.{bounds_values}
use Rattle.bounds_graph.specs.declared.reply.Measures.{Measures}

-- The arrays lent to look.
pub record Tables : Type 0 where
  pub counts : List ℕ
  pub times : List ℕ
  pub from : List ℕ
  pub to : List ℕ
  pub mark : List ℕ

-- The five as one.
abbrev pub tables : List ℕ → List ℕ → List ℕ → List ℕ → List ℕ → Tables
tables counts times from to mark = record { counts = counts; times = times; from = from; to = to; mark = mark }

-- The arrays after look: the graph's N and E, times and rows, unused entries 0; a refusal writes nothing.
abbrev pub shown_in : Result Graph Refusal → Tables → Tables
shown_in (Ok g) before = tables (g.operations ∷ g.edges ∷ []) g.times g.from g.to g.mark
shown_in (Err r) before = before

-- The five values after bounds; a refusal writes nothing.
abbrev pub values_in : Result Measures Refusal → List ℕ → List ℕ
values_in (Ok v) before = bounds_values v
values_in (Err r) before = before
