-- `new`: every goal is the source.
use Prim.Native.Nat.{ℕ}
use native.Mathlib.Omega.{arith}
use Rattle.std.proofs.lemmas.List.{get_or-replicate}
use Rattle.dead_lists.proofs.Lists.new.Goals as goal

pub invariant_of-result : goal.invariant_of-result
invariant_of-result c = record { goals = λ p h. omega (arith, get_or-replicate {A = ℕ} 376 p 0 0 h) }
