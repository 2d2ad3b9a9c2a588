-- How a call above look ends: refused, by look or by a further row of its own, or accepted with look's graph.
use Rattle.std.specs.Prelude.{List, ℕ, Ok, Err}
use Rattle.refusal.specs.Asking.{Ask, Given, Sound}
use Rattle.refusal.specs.declared.Refusal.{Refusal}
use Rattle.net.specs.Plan.{Plan}
use Rattle.reader.specs.Reply.{LookReply, shown}
use Rattle.reader.specs.declared.graph.Graph.{Graph}

-- Refused, or accepted with look's graph.
pub data Outcome : Type 0 where
  refusal : Refusal → Outcome
  accepted : Graph → Outcome

-- The outcome for a file, where `further` are the rows that the call asks of look's graph after look's own.
pub data Ends (f : List ℕ) (further : Plan → List Ask) : Outcome → Type 0 where
  unread : {r : Refusal} → LookReply f (Err r) → Ends f further (refusal r)
  refused : {g : Graph} {r : Refusal} → LookReply f (Ok g) → Given (further (shown g)) r → Ends f further (refusal r)
  passed : {g : Graph} → LookReply f (Ok g) → Sound (further (shown g)) → Ends f further (accepted g)
