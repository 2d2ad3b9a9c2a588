-- Each of the three runs as `row_runs` says.
use Rattle.fraction.proofs.Loads.{row_runs}
use Rattle.circuit_tight.proofs.Lists.list_op.Goals as goal

pub list_place-requires : goal.list_place-requires
list_place-requires c = (row_runs c.args.c.now.load.weighted c.requires).2

pub list_place-requires-2 : goal.list_place-requires-2
list_place-requires-2 c = (row_runs c.args.c.now.load.weighted c.requires).1

pub list_place-requires-3 : goal.list_place-requires-3
list_place-requires-3 c = (row_runs c.args.c.now.load.weighted c.requires).0
