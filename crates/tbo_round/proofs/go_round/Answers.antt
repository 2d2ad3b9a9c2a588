-- The invariant: as many noted places as there were steps lead from x to w, with that time and those tokens.
use native.Mathlib.Omega.{arith}
use Rattle.net.specs.Limits.{longest_time}
use Rattle.fraction.proofs.Loads.{weighted_proper, weighted_short}
use Rattle.tbo_round.proofs.Ways.{round_tour, tour_pair, way_holds, way_lasts}
use Rattle.tbo_round.proofs.Rounds.{going_few, going_in, going_inside, going_none, going_on, going_pos, going_round}
use Rattle.tbo_round.proofs.go_round.Goals as goal

pub loop-init : goal.loop-init
loop-init c = going_none

pub offset_bounds-pred-x : goal.offset_bounds-pred-x
offset_bounds-pred-x c =
    omega (arith, going_in c.requires.turns c.loop.invariant (weighted_proper c.args.g.now.weighted), c.args.g.now.weighted.wired.operations)

pub bounds-pred-x : goal.bounds-pred-x
bounds-pred-x c =
    omega (arith, going_in c.requires.turns c.loop.invariant (weighted_proper c.args.g.now.weighted), c.args.g.now.weighted.wired.operations)

pub overflow_sub-p : goal.overflow_sub-p
overflow_sub-p c = going_pos c.requires.turns c.loop.invariant c.from-p.ensures

pub source-x-requires : goal.source-x-requires
source-x-requires c =
    going_inside c.requires.turns c.loop.invariant c.from-p.ensures

pub overflow_add-time : goal.overflow_add-time
overflow_add-time c =
    let so_far = way_lasts longest_time (weighted_short c.args.g.now.weighted) c.args.g.now.weighted.few c.loop.invariant.way in
    omega (arith, c.args.g.now.weighted.wired.operations, c.from-time.ensures, going_few c.requires.turns c.loop.invariant, so_far)

pub bounds-g-p : goal.bounds-g-p
bounds-g-p c =
    let inside = going_inside c.requires.turns c.loop.invariant c.from-p.ensures in
    omega (arith, inside, c.args.g.now.weighted.wired.operations, c.args.g.now.weighted.wired.edges)

pub overflow_add-tokens : goal.overflow_add-tokens
overflow_add-tokens c =
    let so_far = way_holds longest_time (weighted_short c.args.g.now.weighted) c.args.g.now.weighted.few c.loop.invariant.way in
    omega (arith, c.args.g.now.weighted.wired.operations, c.from-tokens.ensures, going_few c.requires.turns c.loop.invariant, so_far)

pub invariant_of-result : goal.invariant_of-result
invariant_of-result c =
    let round = going_round c.requires.turns c.loop.invariant c.from-p.ensures c.source-x.ensures.is c.from-time.ensures c.from-tokens.ensures c.if-x-w.true in
    record { pair = tour_pair c.args.g.now.weighted (round_tour round) }

pub returns-then-x-w : goal.returns-then-x-w
returns-then-x-w c =
    going_round c.requires.turns c.loop.invariant c.from-p.ensures c.source-x.ensures.is c.from-time.ensures c.from-tokens.ensures c.if-x-w.true

pub loop-preserved : goal.loop-preserved
loop-preserved c =
    going_on c.requires.turns c.loop.invariant c.from-p.ensures c.source-x.ensures.is c.from-time.ensures c.from-tokens.ensures c.if-x-w.false

pub unreachable-requires : goal.unreachable-requires
unreachable-requires c = omega (arith, c.args.g.now.weighted.wired.operations, going_few c.requires.turns c.loop.invariant)
