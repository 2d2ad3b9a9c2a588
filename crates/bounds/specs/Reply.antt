-- What bounds replies, over look's reply.
use Rattle.std.specs.Prelude.{List, ℕ, Result, Ok, Err}
use Rattle.refusal.specs.declared.Refusal.{Refusal}
use Rattle.reader.specs.Reply.{shown}
use Rattle.reader.specs.Outcome.{Ends, Outcome, accepted, refusal}
use Rattle.reader.specs.declared.graph.Graph.{Graph}
use Rattle.bounds_graph.specs.Rows.{bounds_rows}
use Rattle.bounds_graph.specs.Measured.{BoundsOf}
use Rattle.bounds_graph.specs.declared.reply.Measures.{Measures}

-- What each reply says, and the buffer before and after it: the refusal, with nothing written; or the bounds of look's graph.
pub data BoundsReplies (before : List ℕ) : Outcome → Result Measures Refusal → List ℕ → Type 0 where
  refused : {r : Refusal} → BoundsReplies before (refusal r) (Err r) before
  bounded : {g : Graph} {r : Measures} {after : List ℕ} → BoundsOf (shown g) before r after → BoundsReplies before (accepted g) (Ok r) after

-- The reply to a file f and a buffer: 1 to 9 are look's, 14 is asked of look's graph.
pub record BoundsReply (f before : List ℕ) (r : Result Measures Refusal) (after : List ℕ) : Type 0 where
  pub outcome : Outcome
  pub ends : Ends f (bounds_rows before) outcome
  pub replies : BoundsReplies before outcome r after
