-- The two arrays of marks say of each node whether it is linked; the nodes before the one at hand are.
use Prim.Native.Nat.{ℕ, ◌<◌}
use Rattle.net.specs.Rules.{Linked, Node}
use Rattle.net.specs.helpers.Wirings.{wires_of}
use Rattle.judge_links.proofs.first_bare.Given as goal

abbrev pub invariant-loop-node : goal.invariant-loop-node
invariant-loop-node l = (y : ℕ) → y < l.node → Node (wires_of l.g) y → Linked (wires_of l.g) y
