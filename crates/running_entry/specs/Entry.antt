-- One entry of a run: the record and the marking before it, its answer, and both after it.
use Rattle.std.specs.Prelude.{◌≡◌, List, ◌*◌, ◌+◌, ◌<◌, ℕ, length, Err, Ok}
use Rattle.marked.specs.Net.{Net, at}
use Rattle.net.specs.Plan.{wires}
use Rattle.net.specs.Graph.{net_of}
use Rattle.firing.specs.Step.{Steps}
use Rattle.running_entry.specs.declared.RunRecord.{RunRecord}
use Rattle.refusal.specs.Asking.{Verdict}

-- The record after an answer: a firing moves the list position and the count, a refusal keeps both.
abbrev pub advanced : RunRecord → Verdict → RunRecord
advanced rec (Ok tt) = record { places = rec.places; next = rec.next + 1; fired = rec.fired + 1 }
advanced rec (Err r) = rec

-- One entry, the one at the record's list position, where the list has one: its answer, and the record and the bytes after it.
pub record Entry (g : Net) (rec : RunRecord) (m list : List ℕ) (a : Verdict) (after : RunRecord) (z : List ℕ) : Type 0 where
  pub inside : rec.next < length list
  pub steps : Steps g m (at list rec.next) a z
  pub moves : after ≡ advanced rec a

-- An entry over lent rows: of the graph of n operations whose edges run from `from` to `to`, as many as the record's place count has.
pub record EntryTaken (n : ℕ) (from to : List ℕ) (rec : RunRecord) (m list : List ℕ) (a : Verdict) (after : RunRecord) (z : List ℕ) : Type 0 where
  pub edges : ℕ
  pub places : rec.places ≡ 3 * n + 2 * edges
  pub entry : Entry (net_of (wires n edges from to)) rec m list a after z
