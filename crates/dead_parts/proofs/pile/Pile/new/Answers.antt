-- `new`: a pile of no transition.
use Prim.Native.Nat.{ℕ}
use native.Mathlib.Omega.{arith}
use Rattle.std.proofs.lemmas.List.{get_or-replicate}
use Rattle.dead_parts.proofs.pile.Pile.new.Goals as goal

pub invariant_of-result-clause-transitions : goal.invariant_of-result-clause-transitions
invariant_of-result-clause-transitions c = λ k h. omega (arith, get_or-replicate {A = ℕ} 122 k 0 0 h)
