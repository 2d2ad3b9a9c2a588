-- The invariant: k places less one lead from x to goal.
use lib.ListN.{length}
use Prim.Native.Nat.{◌+◌, ◌-◌}
use mathlib.Core.Path.{◌≡◌}
use Rattle.circuit_tight.specs.helpers.Entries.{sources, targets}
use Rattle.circuit.proofs.Climbs.{Climb}
use Rattle.circuit.proofs.write.count_back.Given as goal

abbrev pub invariant-loop-x : goal.invariant-loop-x
invariant-loop-x l = (o : Climb l.w.transitions l.w.places (sources l.w.lists.now.entries) (targets l.w.lists.now.entries) l.root l.goal l.via l.x) × (l.k ≡ 1 + length o.done)

abbrev pub decreases-loop-x : goal.decreases-loop-x
decreases-loop-x l = l.w.transitions - l.k
