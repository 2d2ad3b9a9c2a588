-- Both run as `edge_runs` says.
use Rattle.fraction.proofs.Loads.{edge_runs}
use native.Mathlib.Omega.{arith}
use Rattle.circuit_tight.proofs.Listings.{longer_then}
use Rattle.circuit_tight.proofs.Lists.list_edge.Goals as goal

pub list_place-requires : goal.list_place-requires
list_place-requires c = (edge_runs c.args.c.now.load.weighted c.requires c.writer-u.ensures.is c.reader-v.ensures.is).1

pub list_place-requires-2 : goal.list_place-requires-2
list_place-requires-2 c = (edge_runs c.args.c.now.load.weighted c.requires c.writer-u.ensures.is c.reader-v.ensures.is).0

pub returns : goal.returns
returns c = longer_then (omega arith) (omega arith) c.list_place.ensures c.list_place-2.ensures
