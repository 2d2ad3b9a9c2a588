-- The invariant: w stands that many steps back.
use mathlib.Core.Path.{◌≡◌}
use Rattle.marked.specs.Net.{at}
use Rattle.net.specs.Graph.{net_of}
use Rattle.net.specs.helpers.Wirings.{wires_of}
use Rattle.tbo_round.specs.helpers.Chains.{back}
use Rattle.tbo_round.proofs.follow.Given as goal

abbrev pub invariant-loop : goal.invariant-loop
invariant-loop l = l.w ≡ back (net_of (wires_of l.g)) (at l.pred) l.counter l.v
