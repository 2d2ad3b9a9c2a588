-- What the helpers of `bounds` answer.
use Rattle.std.specs.Prelude.{List, ℕ, Result, Ok, Err}
use Rattle.refusal.specs.declared.Reason.TheVariants.{RoomShort}
use Rattle.refusal.specs.declared.Refusal.{Refusal}
use Rattle.net.specs.Plan.{Plan}
use Rattle.bounds_graph.specs.Rows.{Roomy}
use Rattle.bounds_graph.specs.Measured.{BoundsOf}
use Rattle.bounds_graph.specs.declared.reply.Measures.{Measures}

-- The reply for a graph that look has accepted.
pub data BoundsAnswered (g : Plan) (before : List ℕ) : Result Measures Refusal → List ℕ → Type 0 where
  refused : (Roomy g before → ⊥) → BoundsAnswered g before (Err (record { reason = RoomShort; place = 0 })) before
  bounded : {r : Measures} {after : List ℕ} → Roomy g before → BoundsOf g before r after → BoundsAnswered g before (Ok r) after
