-- `run_rows`: what is left to run gives what the whole run gives.
use Rattle.running.proofs.Runs.{Going}
use Rattle.running.proofs.repeat.run_rows.Given as goal

abbrev pub invariant-loop : goal.invariant-loop
invariant-loop l = Going l.g.operations l.g.edges l.g.from.now l.g.to.now l.initial.marking l.list l.index l.rec l.marking
