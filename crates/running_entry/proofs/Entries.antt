-- What an entry leaves no room for: its answer, and the record and the marking after it, are determined.
use mathlib.Core.Path.{◌≡◌, ◌∙◌, ap, subst, sym}
use mathlib.Core.List.{List}
use Prim.Native.Nat.{ℕ}
use native.Mathlib.Omega.{arith}
use Rattle.marked.specs.Net.{Net}
use Rattle.net.specs.Plan.{wires}
use Rattle.net.specs.Graph.{net_of}
use Rattle.firing.proofs.Steps.{steps_determined}
use Rattle.running_entry.specs.declared.RunRecord.{RunRecord}
use Rattle.running_entry.specs.Entry.{Entry, EntryTaken, advanced}
use Rattle.refusal.specs.Asking.{Verdict}

pub entry_determined : {g : Net} {rec h k : RunRecord} {m list y z : List ℕ} {a b : Verdict}
    → Entry g rec m list a h y → Entry g rec m list b k z → (a ≡ b) × (h ≡ k) × (y ≡ z)
entry_determined {rec} e f =
    let d = steps_determined e.steps f.steps in
    (d.0, e.moves ∙ ap (advanced rec) d.0 ∙ sym f.moves, d.1)

-- What the contract of `entry` allows of one record, marking and list: one answer, and one record and one marking after it.
pub entry_taken_determined : {n : ℕ} {from to : List ℕ} {rec h k : RunRecord} {m list y z : List ℕ} {a b : Verdict}
    → EntryTaken n from to rec m list a h y → EntryTaken n from to rec m list b k z → (a ≡ b) × (h ≡ k) × (y ≡ z)
entry_taken_determined {n} {from} {to} {rec} {h} {m} {list} {y} {a} p q =
    let same : p.edges ≡ q.edges = omega (arith, p.places, q.places) in
    entry_determined (subst (λ (e : ℕ). Entry (net_of (wires n e from to)) rec m list a h y) same p.entry) q.entry
