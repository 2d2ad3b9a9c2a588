-- The sweeps settle, which certifies; or the notes come round, which is a better ring.
use Rattle.tbo_round.proofs.Chains.{notes_of}
use mathlib.Core.Path.{refl}
use native.Mathlib.Omega.{arith}
use Rattle.marked.proofs.Fresh.{zeros}
use Rattle.fraction.proofs.Loads.{weighted_proper, weighted_short}
use Rattle.tbo_sweep.proofs.Sweeping.{room_more}
use Rattle.tbo_sweep.proofs.Tries.{room_swept}
use Rattle.tbo.specs.helpers.Improved.Improves.{beaten, certified}
use Rattle.tbo.proofs.Running.{better, certify, lands, rose, running_on, running_start, steady_next, turns}
use Rattle.tbo.proofs.improve.improve.Goals as goal

pub loop-init : goal.loop-init
loop-init c =
    (running_start (zeros 122), record { low = λ v. omega (arith, c.requires.level.low v); long = c.requires.level.long; wide = refl })

pub sweep-requires-clause-room : goal.sweep-requires-clause-room
sweep-requires-clause-room c = room_more (omega (arith, c.loop.invariant.0.few, c.args.g.now.wiring.wired.operations)) c.loop.invariant.1

pub returns-in_err-v : goal.returns-in_err-v
returns-in_err-v c =
    let room = room_swept (weighted_short c.args.g.now.weighted) c.args.rate.pair.down c.loop.invariant.1 c.sweep.ensures in
    record {
      improves = rw c.from_residual.ensures (certified (certify c.loop.invariant.0 c.sweep.ensures.swept c.in_err-v.was));
      low = λ v. omega (arith, c.args.g.now.wiring.wired.operations, c.args.g.now.wiring.wired.edges, c.loop.invariant.0.few, room.low v);
    }

pub follow-w-requires : goal.follow-w-requires
follow-w-requires c =
    record {
      notes = notes_of (steady_next c.loop.invariant.0 c.sweep.ensures.swept);
      v_bound = (rose c.loop.invariant.0 c.sweep.ensures.swept c.in_ok-v.was).0;
    }

pub offset_bounds-pred-w : goal.offset_bounds-pred-w
offset_bounds-pred-w c =
    let place = lands c.loop.invariant.0 c.sweep.ensures.swept (weighted_proper c.args.g.now.weighted) c.in_ok-v.was c.follow-w.ensures in
    omega (arith, c.args.g.now.wiring.wired.operations, place)

pub bounds-pred-w : goal.bounds-pred-w
bounds-pred-w c =
    let place = lands c.loop.invariant.0 c.sweep.ensures.swept (weighted_proper c.args.g.now.weighted) c.in_ok-v.was c.follow-w.ensures in
    omega (arith, c.args.g.now.wiring.wired.operations, place)

pub go_round-ring-requires : goal.go_round-ring-requires
go_round-ring-requires c =
    record { turns = turns c.loop.invariant.0 c.sweep.ensures.swept (weighted_proper c.args.g.now.weighted) c.in_ok-v.was c.follow-w.ensures c.if-pred-w-ne0.true }

pub returns-then-pred-w-ne0 : goal.returns-then-pred-w-ne0
returns-then-pred-w-ne0 c =
    let walk = better c.loop.invariant.0 c.sweep.ensures.swept c.go_round-ring.ensures in
    let room = room_swept (weighted_short c.args.g.now.weighted) c.args.rate.pair.down c.loop.invariant.1 c.sweep.ensures in
    record {
      improves = beaten walk.0 walk.1;
      low = λ v. omega (arith, c.args.g.now.wiring.wired.operations, c.args.g.now.wiring.wired.edges, c.loop.invariant.0.few, room.low v);
    }

pub loop-preserved : goal.loop-preserved
loop-preserved c =
    let room = room_swept (weighted_short c.args.g.now.weighted) c.args.rate.pair.down c.loop.invariant.1 c.sweep.ensures in
    let next = running_on c.loop.invariant.0 c.sweep.ensures.swept (weighted_proper c.args.g.now.weighted) c.in_ok-v.was c.follow-w.ensures c.if-pred-w-ne0.false in
    (next, room_more (omega (arith, c.args.g.now.wiring.wired.operations, c.args.g.now.wiring.wired.edges)) room)

pub unreachable-requires : goal.unreachable-requires
unreachable-requires c = omega (arith, c.args.g.now.wiring.wired.operations, c.loop.invariant.0.few)
