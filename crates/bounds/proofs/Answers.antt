-- From the reply for an accepted graph to the reply for a file.
use mathlib.Core.Path.{refl}
use mathlib.Core.List.{List}
use Prim.Native.Nat.{ℕ}
use Rattle.std.specs.Prelude.{Result, Ok, Err}
use Rattle.refusal.specs.declared.Refusal.{Refusal}
use Rattle.refusal.proofs.Asked.{given_here, lowest_whole, sound_next, sound_none}
use Rattle.reader.specs.Reply.{LookReply, shown}
use Rattle.reader.specs.Outcome.{accepted, passed, refusal, refused as stopped, unread}
use Rattle.reader.specs.declared.graph.Graph.{Graph}
use Rattle.bounds.specs.Reply.{BoundsReply, bounded as replies_bounded, refused as replies_refused}
use Rattle.bounds_graph.specs.helpers.Answered.{BoundsAnswered, bounded, refused}
use Rattle.bounds_graph.specs.declared.reply.Measures.{Measures}

module _ {f before : List ℕ} where
  pub unread_reply : {r : Refusal} → LookReply f (Err r) → BoundsReply f before (Err r) before
  unread_reply look = record { outcome = refusal _; ends = unread look; replies = replies_refused }

  pub answered_reply :
      {g : Graph} {r : Result Measures Refusal} {after : List ℕ} → LookReply f (Ok g) → BoundsAnswered (shown g) before r after → BoundsReply f before r after
  answered_reply look (refused n) = record { outcome = refusal _; ends = stopped look (given_here _ refl (lowest_whole n)); replies = replies_refused }
  answered_reply look (bounded h b) = record { outcome = accepted _; ends = passed look (sound_next (λ x p. h) sound_none); replies = replies_bounded b }
