-- `reach`: the queue has room for every transition and no more, so it ends.
use Prim.Native.Nat.{◌-◌}
use Rattle.dead_hints.proofs.ways.Search.reach.Given as goal

abbrev pub decreases-loop-done : goal.decreases-loop-done
decreases-loop-done l = 122 - l.done
