-- The invariant: the places of the first j items have been tried.
use mathlib.Core.Path.{◌≡◌}
use Prim.Native.Nat.{ℕ, ◌+◌}
use Rattle.std.proofs.lemmas.List.{length-take-le}
use native.Mathlib.Omega.{arith}
use Rattle.fraction.proofs.Loads.{weighted_short}
use Rattle.tbo_sweep.proofs.Sweeping.{room_more}
use Rattle.tbo_sweep.proofs.Among.{all_among, among_last, handed}
use Rattle.tbo_sweep.proofs.Tries.{room_swept, swepts_none, swepts_then, swepts_to}
use Rattle.tbo_sweep.proofs.sweep.Goals as goal

pub loop-x-init : goal.loop-x-init
loop-x-init c = swepts_none (λ p h. absurd (omega (arith, h.1)))

pub overflow_add-x-items : goal.overflow_add-x-items
overflow_add-x-items c = omega (arith, c.args.g.now.wiring.wired.operations, c.args.g.now.wiring.wired.edges)

pub raise_item-last-requires : goal.raise_item-last-requires
raise_item-last-requires c =
    let here = handed c.args.ord.now c.loop-x-test.true c.from.ensures in
    let room = room_swept (weighted_short c.args.g.now.weighted) c.args.rate.pair.down c.requires.room c.loop-x.invariant in
    record {
      item = rw here.1 (c.requires.ordered.items c.loop-x.x-index here.0);
      room = room_more (omega (arith, c.args.g.now.wiring.wired.operations, c.args.g.now.wiring.wired.edges, here.0)) room;
    }

pub loop-x-preserved : goal.loop-x-preserved
loop-x-preserved c =
    let tried = rw (handed c.args.ord.now c.loop-x-test.true c.from.ensures).1 at c.raise_item-last.ensures.swept in
    let next = swepts_then (among_last c.args.g.now.wiring.operations c.loop-x.x-index c.args.ord.now) c.loop-x.invariant tried in
    rw c.raise_item-last.ensures.last (swepts_to (λ p h. h) (omega arith) next)

pub returns : goal.returns
returns c =
    let o = c.args.g.now.wiring.wired in
    let count : ℕ = c.args.g.now.wiring.operations + c.args.g.now.wiring.edges in
    let all : c.loop-x.x-index ≡ count = omega (arith, o.operations, o.edges, length-take-le count c.args.ord.now) in
    swepts_to (λ p h. rw all (all_among o.edges c.requires.ordered p h)) (omega arith) c.loop-x.invariant
