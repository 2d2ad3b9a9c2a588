-- The invariant: as many noted places as there were steps lead from x to w, with that time and those tokens.
use Rattle.marked.specs.Net.{at}
use Rattle.net.specs.Graph.{net_of}
use Rattle.net.specs.helpers.Wirings.{wires_of}
use Rattle.tbo_round.proofs.Rounds.{Going}
use Rattle.tbo_round.proofs.go_round.Given as goal

abbrev pub invariant-loop : goal.invariant-loop
invariant-loop l =
    Going (net_of (wires_of l.g.wiring)) (at l.g.marking.now) (at l.g.times.now) (at l.pred) l.w l.x l.time l.tokens l.counter
