-- The invariant: the places from edge k on are listed.
use Prim.Native.Nat.{◌+◌, ◌*◌}
use Rattle.net.specs.helpers.Wirings.{places_of}
use Rattle.circuit_tight.specs.helpers.Certificates.{Longer}
use Rattle.circuit_tight.proofs.Lists.list_edges.Given as goal

abbrev pub invariant-loop-k : goal.invariant-loop-k
invariant-loop-k l = Longer l.c (places_of l.c.load.wiring) (3 * l.c.load.wiring.operations + 2 * l.k) l.initial.self l.self
