-- The page on which numbers are gathered.
use Rattle.std.specs.Prelude.{◌≡◌, List, ℕ, ◌+◌, ◌≤◌, ◌++◌, take}
use Rattle.std.specs.Io.KnownBytes.{Appends}
use Rattle.std.specs.declared.option.Option.{Option}

-- There is room for one more number behind the fill.
pub record Roomy (at : ℕ) : Type 0 where
  pub room : at + 32 ≤ 4096

-- Of a text, what is not yet written stands at the page's beginning: `written` and `writes` are what the writer holds before it and now.
pub record Gathered (written writes : Option (List ℕ)) (page : List ℕ) (at : ℕ) (text : List ℕ) : Type 0 where
  pub sent : List ℕ
  pub appended : Appends written writes sent
  pub whole : sent ++ take at page ≡ text
