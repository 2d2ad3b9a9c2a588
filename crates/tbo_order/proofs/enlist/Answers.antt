-- The invariant: the first i items stand in left.
use native.Mathlib.Omega.{arith}
use Rattle.tbo_order.proofs.Sorting.{enlist_none, enlist_on, listed_item}
use Rattle.tbo_order.proofs.enlist.Goals as goal

pub loop-i-init : goal.loop-i-init
loop-i-init c = enlist_none c.requires.left_len

pub overflow_add-i-end : goal.overflow_add-i-end
overflow_add-i-end c = omega (arith, c.args.g.now.wired.operations, c.args.g.now.wired.edges)

pub item-x-requires : goal.item-x-requires
item-x-requires c = (c.args.g.now.wired.operations, c.args.g.now.wired.edges, omega arith)

pub bounds-left-i : goal.bounds-left-i
bounds-left-i c = omega (arith, c.args.g.now.wired.operations, c.args.g.now.wired.edges, c.loop-i.invariant.long)

pub end-t-requires : goal.end-t-requires
end-t-requires c =
    rw c.from.ensures (listed_item _ _ _ (omega arith) c.item-x.ensures)

pub bounds-wait-t : goal.bounds-wait-t
bounds-wait-t c = omega (arith, c.end-t.ensures)

pub bounds-wait-t-in-loop-i : goal.bounds-wait-t-in-loop-i
bounds-wait-t-in-loop-i c = omega (arith, c.end-t.ensures)

pub loop-i-preserved : goal.loop-i-preserved
loop-i-preserved c =
    enlist_on c.loop-i.invariant (omega (arith, c.args.g.now.wired.operations, c.args.g.now.wired.edges)) c.item-x.ensures

pub returns : goal.returns
returns c = record { each = λ j h. c.loop-i.invariant.each j (omega arith); long = c.loop-i.invariant.long }
