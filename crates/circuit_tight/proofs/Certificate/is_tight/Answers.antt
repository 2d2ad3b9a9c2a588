-- Both ends are transitions (`place_within`), and the potentials leave room.
use native.Mathlib.Omega.{arith}
use Rattle.fraction.proofs.Loads.{place_time, place_within}
use Rattle.circuit_tight.proofs.Certificate.is_tight.Goals as goal

pub offset_bounds-self-s : goal.offset_bounds-self-s
offset_bounds-self-s c = omega (arith, place_within c.args.self.now.load.weighted c.requires)

pub bounds-self-s : goal.bounds-self-s
bounds-self-s c = (place_within c.args.self.now.load.weighted c.requires).0

pub gain-up-requires : goal.gain-up-requires
gain-up-requires c = place_time c.args.self.now.load.weighted c.requires

pub offset_bounds-self-s-2 : goal.offset_bounds-self-s-2
offset_bounds-self-s-2 c = omega (arith, place_within c.args.self.now.load.weighted c.requires)

pub bounds-self-s-2 : goal.bounds-self-s-2
bounds-self-s-2 c = (place_within c.args.self.now.load.weighted c.requires).0

pub offset_bounds-self-t : goal.offset_bounds-self-t
offset_bounds-self-t c = omega (arith, place_within c.args.self.now.load.weighted c.requires)

pub bounds-self-t : goal.bounds-self-t
bounds-self-t c = (place_within c.args.self.now.load.weighted c.requires).1
