-- The lists, the search and the writing, one after the other: `handed`.
use Rattle.circuit.proofs.Handing.{all_headed, all_threaded, found, handed}
use Rattle.circuit.proofs.choose.Goals as goal

pub invariant_of-ways-clause-threaded : goal.invariant_of-ways-clause-threaded
invariant_of-ways-clause-threaded c = all_threaded c.args.g.now.weighted c.transitions.ensures c.places-places.ensures c.list_tight.ensures

pub invariant_of-ways-clause-headed : goal.invariant_of-ways-clause-headed
invariant_of-ways-clause-headed c =
    all_headed c.args.g.now.weighted c.transitions.ensures c.places-places.ensures c.list_tight.ensures c.list_tight.new.self.whole.heads

pub unwrap-p-requires : goal.unwrap-p-requires
unwrap-p-requires c =
    found c.args.g.now.weighted c.transitions.ensures c.places-places.ensures c.list_tight.ensures c.requires.largest_by c.first.new.via c.first.result c.first.ensures

pub returns : goal.returns
returns c =
    let least = rw c.unwrap-p.ensures at c.first.ensures in
    handed c.args.g.now.weighted c.transitions.ensures c.places-places.ensures c.list_tight.ensures c.requires.largest_by least c.hand_out.ensures
