-- The invariant: the places from row i on are listed.
use Prim.Native.Nat.{◌*◌}
use Rattle.circuit_tight.specs.helpers.Certificates.{Longer}
use Rattle.circuit_tight.proofs.Lists.list_ops.Given as goal

abbrev pub invariant-loop-i : goal.invariant-loop-i
invariant-loop-i l = Longer l.c (3 * l.c.load.wiring.operations) (3 * l.i) l.initial.self l.self
