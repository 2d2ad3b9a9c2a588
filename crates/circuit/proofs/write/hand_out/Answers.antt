-- The invariant: the places behind x stand in the buffer from k on.
use mathlib.Core.Path.{ap, refl, ◌∙◌}
use native.Mathlib.Omega.{arith}
use Rattle.marked.specs.Net.{at}
use Rattle.circuit_tight.specs.helpers.Entries.{sources}
use Rattle.circuit_tight.proofs.Entries.{source_told, target_told}
use Rattle.circuit.proofs.Climbs.{climb_in, climb_place}
use Rattle.circuit.proofs.Fills.{fill_end, fill_left, fill_on, fill_start, root_apart, root_in}
use Rattle.circuit.proofs.write.hand_out.Goals as goal

pub loop-x-init : goal.loop-x-init
loop-x-init c = fill_start (root_in c.args.w.now.threaded c.requires.listed.0 c.requires.listed.1 (target_told c.args.w.now.lists.now.entries c.args.p c.from-root.ensures)) c.count_back-len.ensures

pub offset_bounds-via-x : goal.offset_bounds-via-x
offset_bounds-via-x c =
    omega (arith, climb_in c.args.w.now.threaded c.loop-x.invariant.climb, c.args.w.now.threaded.few)

pub bounds-via-x : goal.bounds-via-x
bounds-via-x c =
    omega (arith, climb_in c.args.w.now.threaded c.loop-x.invariant.climb, c.args.w.now.threaded.few)

pub offset_bounds-ring-k : goal.offset_bounds-ring-k
offset_bounds-ring-k c =
    let room = fill_left c.args.w.now.threaded c.loop-x.invariant c.requires.room c.loop-x-test.true in
    omega (arith, room.1, c.args.w.now.threaded.few)

pub bounds-ring-k : goal.bounds-ring-k
bounds-ring-k c =
    let room = fill_left c.args.w.now.threaded c.loop-x.invariant c.requires.room c.loop-x-test.true in
    omega (arith, room.0, room.1, c.loop-x.invariant.long, c.requires.room)

pub bounds-w-from : goal.bounds-w-from
bounds-w-from c =
    omega (arith, climb_place c.args.w.now.threaded c.loop-x.invariant.climb c.loop-x-test.true c.from.ensures, c.args.w.now.threaded.many)

pub loop-x-preserved : goal.loop-x-preserved
loop-x-preserved c =
    fill_on c.args.w.now.threaded c.loop-x.invariant c.requires.room c.loop-x-test.true refl (source_told c.args.w.now.lists.now.entries c.from.result c.from-x.ensures ∙ ap (at (sources c.args.w.now.lists.now.entries)) c.from.ensures)

pub returns : goal.returns
returns c =
    let apart = root_apart c.args.w.now.threaded c.requires.listed.0 c.requires.listed.1 (target_told c.args.w.now.lists.now.entries c.args.p c.from-root.ensures) (source_told c.args.w.now.lists.now.entries c.args.p c.from-goal.ensures) in
    fill_end c.args.w.now.threaded c.loop-x.invariant c.requires.room (target_told c.args.w.now.lists.now.entries c.args.p c.from-root.ensures) (source_told c.args.w.now.lists.now.entries c.args.p c.from-goal.ensures) apart c.loop-x-test.false
