-- What is written of an input's records: a line for each, up to one that is cut short or whose letter names no call.
use Rattle.std.specs.Prelude.{◌≡◌, Bool, List, ℕ, ◌+◌, ◌<◌, ◌≤◌, true, false, length, get_or, take, slice_range, IfSome}
use Rattle.std.specs.declared.option.Option.{Option}
use Rattle.std.specs.Io.KnownBytes.{Appends}
use Rattle.little.specs.Text.{bytes}
use Rattle.records.specs.Called.{Called}
use Rattle.records.specs.Parts.{Ends, words}

-- The record at a place, whose file, list and marking end at f, l and m, is whole, and its call is made; what the call leaves in its list and its marking
-- is its own.
pub record Made (s : List ℕ) (at f l m : ℕ) (old new : Option (List ℕ)) (named : Bool) : Type 0 where
  pub ends : Ends s at f l m
  pub whole : m ≤ length s
  pub list : List ℕ
  pub marking : List ℕ
  pub called : Called (get_or s at 0) (slice_range s (at + 3) f) (words (slice_range s (f + 2) l)) list (slice_range s (l + 2) m) marking old new named

-- What is written of the record at a place, and where the next begins: the call's line; or, where it is cut short or its letter names no call, that it is
-- the last.
pub data Line (s : List ℕ) (at : ℕ) (old new : Option (List ℕ)) (next : ℕ) : Type 0 where
  made : {f l : ℕ} → Made s at f l next old new true → Line s at old new next
  short : {f l m : ℕ} → Ends s at f l m → length s < m → Appends old new (bytes "cut\n") → next ≡ length s → Line s at old new next
  unnamed : {f l m : ℕ} {held : Option (List ℕ)} → Made s at f l m old held false → Appends held new (bytes "cut\n") → next ≡ length s → Line s at old new next

-- What is written of all records from a place on.
pub data Lines (s : List ℕ) : ℕ → Option (List ℕ) → Option (List ℕ) → Type 0 where
  ended : {at : ℕ} {held : Option (List ℕ)} → length s ≤ at → Lines s at held held
  more : {at next : ℕ} {a b c : Option (List ℕ)} → at < length s → Line s at a b next → Lines s next b c → Lines s at a c

-- What is written of an input, where its bytes are known: its first 60,000 are read.
abbrev pub Played : Option (List ℕ) → Option (List ℕ) → Option (List ℕ) → Type 0
Played input old new = IfSome input (λ xs. Lines (take 60000 xs) 0 old new)
