-- What is written: the texts that a line of a call is made of.
use Rattle.std.specs.Prelude.{ℕ, List, ◌++◌, length, get_or}
use Rattle.std.specs.declared.option.Option.{Option}
use Rattle.std.specs.Io.KnownBytes.{Appends}
use Rattle.refusal.specs.Numbers.{number_told, place_told}
use Rattle.refusal.specs.declared.Refusal.{Refusal}
use Rattle.little.specs.Text.{bytes}
use Rattle.pen_put.specs.Lines.{item, series}

-- a number behind a blank
abbrev pub number_text : ℕ → List ℕ
number_text x = item (bytes " ") x

-- a call's name, and its refusal's number and place
abbrev pub head_text : List ℕ → Option Refusal → List ℕ
head_text name r = name ++ (number_text (number_told r) ++ number_text (place_told r))

-- entry i of the memory
abbrev pub entry_text : List ℕ → ℕ → List ℕ
entry_text memory i = number_text (get_or memory i 0)

-- the lent memory, which ends the line
abbrev pub memory_text : List ℕ → List ℕ
memory_text memory = bytes " memory" ++ (series (entry_text memory) (length memory) ++ bytes "\n")

-- The writer, which held the bytes `old` and holds the bytes `new`, has got the line of a reply such as the call's contract allows.
pub record Told {A : Type 0} (May : A → Type 0) (line : A → List ℕ) (old new : Option (List ℕ)) : Type 0 where
  pub reply : A
  pub allowed : May reply
  pub appended : Appends old new (line reply)
