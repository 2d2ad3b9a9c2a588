-- Every entry lies between the two bounds.
use Rattle.net_main.specs.Columns.{Column}
use Rattle.net_main.proofs.column.Given as goal

abbrev pub invariant-loop-k : goal.invariant-loop-k
invariant-loop-k l = Column l.least l.most l.out
