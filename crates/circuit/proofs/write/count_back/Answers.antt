-- The invariant: k places less one lead from x to goal.
use lib.ListN.{length}
use mathlib.Core.Path.{ap}
use native.Mathlib.Omega.{arith}
use Rattle.circuit_tight.proofs.Entries.{source_told}
use Rattle.circuit.proofs.Climbs.{climb_end, climb_in, climb_more, climb_on, climb_place, climb_start}
use Rattle.circuit.proofs.write.count_back.Goals as goal

pub loop-x-init : goal.loop-x-init
loop-x-init c = (climb_start c.args.via.now c.requires.root_lt_nt.0 c.requires.first_noted, omega arith)

pub offset_bounds-via-x : goal.offset_bounds-via-x
offset_bounds-via-x c = omega (arith, climb_in c.args.w.now.threaded c.loop-x.invariant.0, c.args.w.now.threaded.few)

pub bounds-via-x : goal.bounds-via-x
bounds-via-x c = omega (arith, climb_in c.args.w.now.threaded c.loop-x.invariant.0, c.args.w.now.threaded.few)

pub bounds-w-q : goal.bounds-w-q
bounds-w-q c = omega (arith, climb_place c.args.w.now.threaded c.loop-x.invariant.0 c.loop-x-test.true c.from-q.ensures, c.args.w.now.threaded.many)

pub overflow_add-k : goal.overflow_add-k
overflow_add-k c =
    omega (arith, climb_more c.args.w.now.threaded c.loop-x.invariant.0 c.loop-x-test.true, c.loop-x.invariant.1, c.args.w.now.threaded.few)

pub loop-x-smaller : goal.loop-x-smaller
loop-x-smaller c =
    omega (arith, climb_more c.args.w.now.threaded c.loop-x.invariant.0 c.loop-x-test.true, c.loop-x.invariant.1)

pub loop-x-preserved : goal.loop-x-preserved
loop-x-preserved c =
    let loop-test = c.loop-x-test in
    (climb_on c.loop-x.invariant.0 loop-test.true c.from-q.ensures (source_told c.args.w.now.lists.now.entries c.from-q.result c.from-x.ensures), omega (arith, c.loop-x.invariant.1))

pub returns : goal.returns
returns c =
    let inv = c.loop-x.invariant in
    let end = climb_end c.args.w.now.threaded inv.0 c.requires.root_lt_nt.1 c.loop-x-test.false in
    record { noted = inv.0.noted; count = omega (arith, inv.1, ap length end) }
