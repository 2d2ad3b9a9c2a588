-- What a writer has room for, and what it is after it has written.
use Rattle.std.specs.Prelude.{◌≡◌, ℕ, ◌+◌, List, length}
use Rattle.std.proofs.lemmas.List.Edits.{sets}
use denote.Ref.{at_last}
use Rattle.pen_put.specs.Lines.{HasRoom}
use Rattle.pen.specs.declared.Writer.{Writer}

-- the text has room behind what the writer has written
abbrev pub HasRoomFor : Writer → List ℕ → Type 0
HasRoomFor w text = HasRoom w.buf.now w.at text

-- the writer with the text written: the same borrow, the text's bytes from its place on, and the place behind them
abbrev pub wrote : Writer → List ℕ → Writer
wrote w text = record { buf = at_last w.buf (sets w.buf.now w.at text); at = w.at + length text }

-- the writer before has become the writer after: it has written the text
pub record Wrote (before : Writer) (text : List ℕ) (after : Writer) : Type 0 where
  pub is : after ≡ wrote before text
