-- The loop's invariant: the waits of the first t transitions stand in their entries.
use Rattle.report_graph.proofs.Waiting.{Summing}
use Rattle.report_graph.proofs.waits.every_wait.Given as goal

abbrev pub invariant-loop-t : goal.invariant-loop-t
invariant-loop-t l = Summing l.g.operations l.g.edges l.g.from.now l.g.to.now l.marking l.t l.waits
