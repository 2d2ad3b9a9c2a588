-- The invariant: the best rate has the time and the tokens of a closed walk. Each better one comes nearer to the largest that can be.
use Rattle.marked.specs.Net.{at}
use Rattle.net.specs.Graph.{net_of}
use Rattle.net.specs.helpers.Wirings.{transitions_of, wires_of}
use Rattle.tbo_round.specs.helpers.Chains.{Tour}
use Rattle.tbo.proofs.Attained.{left}
use Rattle.tbo.proofs.largest.Given as goal

abbrev pub invariant-loop-better : goal.invariant-loop-better
invariant-loop-better l = Tour (net_of (wires_of l.g.wiring)) (at l.g.marking.now) (at l.g.times.now) l.best.time l.best.tokens

abbrev pub decreases-loop-better : goal.decreases-loop-better
decreases-loop-better l = left (transitions_of l.g.wiring) l.best.time l.best.tokens
