-- The place is put in front where it is tight: `place_put`.
use borrow.Author.Rules.{rules}
use native.Mathlib.Omega.{arith}
use Rattle.std.proofs.lemmas.List.{map-set}
use Rattle.fraction.proofs.Loads.{place_within}
use Rattle.circuit_tight.proofs.ListRows.{place_put}
use Rattle.circuit_tight.proofs.Lists.list_place.Goals as goal

pub offset_bounds-self-s : goal.offset_bounds-self-s
offset_bounds-self-s c = omega (arith, place_within c.args.c.now.load.weighted c.requires)

pub bounds-self-s : goal.bounds-self-s
bounds-self-s c = (place_within c.args.c.now.load.weighted c.requires).0

pub offset_bounds-self-s-2 : goal.offset_bounds-self-s-2
offset_bounds-self-s-2 c = omega (arith, place_within c.args.c.now.load.weighted c.requires)

pub bounds-self-s-2 : goal.bounds-self-s-2
bounds-self-s-2 c = (place_within c.args.c.now.load.weighted c.requires).0

pub overflow_cast-self-2 : goal.overflow_cast-self-2
overflow_cast-self-2 c = omega (arith, place_within c.args.c.now.load.weighted c.requires)

pub overflow_cast-self : goal.overflow_cast-self
overflow_cast-self c = omega (arith, place_within c.args.c.now.load.weighted c.requires)

pub returns : goal.returns
returns c = simp map-set (place_put c.args.c.now.load.weighted c.requires c.args.self.now.whole (search rules))
