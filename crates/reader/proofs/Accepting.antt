-- What an accepted reply gives to the crates above: its graph is good.
use mathlib.Core.List.{List}
use Prim.Native.Nat.{ℕ}
use Rattle.refusal.specs.Asking.{Judged, Verdict}
use Rattle.refusal.proofs.Asked.{judged_after, sound_parts}
use Rattle.refusal.proofs.Same.{judged_same, sound_same}
use Rattle.net.specs.Limits.{Counted}
use Rattle.net.specs.Rules.{graph_rows}
use Rattle.net.specs.Good.{Good}
use Rattle.net.proofs.Agree.{agree_rows, agree_sym}
use Rattle.net.proofs.Good.{sound_good}
use Rattle.file_trailer.specs.File.{edges_of, operations_of, plan_of}
use Rattle.file.specs.Frame.{Framed, frame_rows, look_rows}
use Rattle.file.proofs.Order.{framed_sound, sound_framed}
use Rattle.reader.specs.Reply.{LookReply, Shows, looked, shown}
use Rattle.reader.specs.declared.graph.Graph.{Graph}
use Rattle.reader.proofs.Showing.{shown_agrees}
use Rattle.std.specs.Prelude.{Ok}

-- The verdict on the graph that is read from a framed file is the file's.
pub judged_shown : (f : List ℕ) {g : Graph} {v : Verdict} → Framed f → Shows (plan_of f) (operations_of f) (edges_of f) g → Judged (graph_rows (shown g)) v → Judged (look_rows f) v
judged_shown f {g} w s h =
    judged_after (frame_rows f) (graph_rows (plan_of f)) (framed_sound w) (judged_same (graph_rows (shown g)) (graph_rows (plan_of f)) (agree_rows (shown g) (plan_of f) (shown_agrees s)) h)

-- A graph that is shown has the counts of the file.
pub shown_counted : (f : List ℕ) {g : Graph} → Counted (operations_of f) (edges_of f) → Shows (plan_of f) (operations_of f) (edges_of f) g → Counted g.operations g.edges
shown_counted f c s = rw (s.operations, s.edges) c

-- An accepted file's graph is good.
pub accepted_good : (f : List ℕ) {g : Graph} → LookReply f (Ok g) → Good g.operations g.edges g.times g.from g.to g.mark g.buffers
accepted_good f {g} (looked sound shows) =
    let parts = sound_parts (frame_rows f) (graph_rows (plan_of f)) sound in
    let counts = shown_counted f (sound_framed parts.0).counted shows in
    let rows = sound_same (graph_rows (plan_of f)) (graph_rows (shown g)) (agree_rows (plan_of f) (shown g) (agree_sym (shown_agrees shows))) parts.1 in
    sound_good g.times g.from g.to g.mark g.buffers counts.operations counts.edges rows
