-- `spread`: a place leads on to a lower one, so it ends.
use Prim.Native.Nat.{◌+◌, ℕ}
use Rattle.std.specs.Prelude.{None, Option, Some}
use Rattle.dead_hints.proofs.ways.Search.spread.Given as goal

-- How many places can be left.
abbrev pub left : Option ℕ → ℕ
left None = 0
left (Some p) = p + 1

abbrev pub decreases-loop-next : goal.decreases-loop-next
decreases-loop-next l = left l.next
