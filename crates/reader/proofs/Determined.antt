-- Two replies that `LookReply` allows for one file are equal.
use Prim.Native.Nat.{ℕ}
use mathlib.Core.Path.{◌≡◌, ap}
use mathlib.Core.List.{List}
use Rattle.std.specs.Prelude.{Err, Ok, Result}
use Rattle.refusal.specs.declared.Refusal.{Refusal}
use Rattle.refusal.proofs.Determined.{given_unique, sound_not_given}
use Rattle.reader.specs.Reply.{LookReply, declined, looked}
use Rattle.reader.specs.declared.graph.Graph.{Graph}
use Rattle.reader.proofs.Showing.{same_graph}

pub look_determined : (f : List ℕ) (r s : Result Graph Refusal) → LookReply f r → LookReply f s → r ≡ s
look_determined f r s (looked p g) (looked q h) = ap (λ (x : Graph). Ok x) (same_graph g h)
look_determined f r s (looked p g) (declined q) = absurd (sound_not_given p q)
look_determined f r s (declined p) (looked q h) = absurd (sound_not_given q p)
look_determined f r s (declined p) (declined q) = ap (λ (x : Refusal). Err x) (given_unique p q)
