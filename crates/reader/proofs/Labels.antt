-- The label rule: files that differ only in label bytes get equal replies, and so do files that differ in the order of their tables.
use Prim.Native.Nat.{ℕ}
use mathlib.Core.Path.{◌≡◌}
use mathlib.Core.List.{List}
use native.Mathlib.Omega.{arith}
use Rattle.refusal.specs.Asking.{Sound}
use Rattle.refusal.proofs.Same.{SameRows, asked_same, given_same, sound_same}
use Rattle.refusal.proofs.Asked.{sound_parts}
use Rattle.net.specs.Plan.{Agree}
use Rattle.net.specs.Rules.{graph_rows}
use Rattle.net.proofs.Agree.{agree_rows}
use Rattle.file_trailer.specs.File.{plan_of}
use Rattle.file.specs.Frame.{frame_rows, look_rows}
use Rattle.file.specs.Labels.{SameButLabels, SameGraph}
use Rattle.file.proofs.Labels.{labels_rows, plans_agree}
use Rattle.file.proofs.Order.{sound_framed}
use Rattle.reader.specs.Reply.{LookReply, declined, looked}
use Rattle.reader.specs.declared.graph.Graph.{Graph}
use Rattle.reader.proofs.Showing.{shows_same, shows_to}
use Rattle.reader.proofs.Determined.{look_determined}
use Rattle.std.specs.Prelude.{Result}
use Rattle.refusal.specs.declared.Refusal.{Refusal}

-- Files whose rows are the same, and whose plans agree where they are kept, are allowed the same reply.
carries : (f g : List ℕ) → SameRows (look_rows f) (look_rows g) → (Sound (look_rows f) → Agree (plan_of f) (plan_of g)) → (r : Result Graph Refusal) → LookReply f r → LookReply g r
carries f g same agree r (looked h s) =
    let p = agree h in
    looked (sound_same (look_rows f) (look_rows g) same h) (shows_to p.operations p.edges (shows_same p (omega arith) (omega arith) s))
carries f g same agree r (declined h) = declined (given_same (look_rows f) (look_rows g) same h)

-- A reply for a file is one for each file that differs only in labels.
pub look_carries : (f g : List ℕ) → SameButLabels f g → (r : Result Graph Refusal) → LookReply f r → LookReply g r
look_carries f g s =
    carries f g (labels_rows f g s) (λ h. plans_agree f g s (sound_framed (sound_parts (frame_rows f) (graph_rows (plan_of f)) h).0).laid)

-- Files that differ only in labels get equal replies, whether they are accepted or refused.
pub look_label_blind : (f g : List ℕ) → SameButLabels f g → (r s : Result Graph Refusal) → LookReply f r → LookReply g s → r ≡ s
look_label_blind f g a r s p q = look_determined g r s (look_carries f g a r p) q

-- Files that hold the same graph, their tables in either order, get equal replies.
pub look_order_blind : (f g : List ℕ) → SameGraph f g → (r s : Result Graph Refusal) → LookReply f r → LookReply g s → r ≡ s
look_order_blind f g a r s p q = look_determined g r s (carries f g rows (λ h. a.plans) r p) q
  where
    rows : SameRows (look_rows f) (look_rows g)
    rows =
        let x = a.left in
        let y = a.right in (
          asked_same (λ h. y.sized) (λ h. x.sized),
          λ k1. (
            asked_same (λ h. y.signed) (λ h. x.signed),
            λ k2. (
              asked_same (λ h. y.counted) (λ h. x.counted),
              λ k3.
                  (asked_same (λ h. y.laid) (λ h. x.laid), λ k4. agree_rows (plan_of f) (plan_of g) a.plans),
            ),
          ),
        )
