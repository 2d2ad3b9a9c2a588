-- `latest` compares edge by edge: what it has is the largest entry among the sinks seen.
use Rattle.paths.specs.helpers.Latest.{Latest}
use Rattle.paths.proofs.latest.Given as goal

abbrev pub invariant-loop-k : goal.invariant-loop-k
invariant-loop-k l = Latest l.g.plotted.wiring.operations l.g.plotted.wiring.from.now l.g.plotted.mark.now l.finish l.k l.most
