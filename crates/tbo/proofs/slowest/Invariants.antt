-- The best row so far is one.
use Prim.Native.Nat.{◌<◌}
use Rattle.tbo.proofs.slowest.Given as goal

abbrev pub invariant-loop-i : goal.invariant-loop-i
invariant-loop-i l = l.best < l.n
