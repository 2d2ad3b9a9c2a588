-- An operation or an edge.
use native.Mathlib.Omega.{arith}
use Rattle.tbo_order.proofs.Sorting.{item_edge, item_op}
use Rattle.tbo_sweep.proofs.Among.{of_edge, of_op}
use Rattle.tbo_sweep.proofs.Tries.{swepts_to}
use Rattle.tbo_sweep.proofs.raise_item.Goals as goal

pub raise_op-requires : goal.raise_op-requires
raise_op-requires c =
    let h = item_op _ _ _ c.args.g.now.wiring.wired.edges c.requires.item c.if-x-ge-EDGES.true in
    record { row = omega arith; room = c.requires.room }

pub returns-then-x-ge-EDGES : goal.returns-then-x-ge-EDGES
returns-then-x-ge-EDGES c =
    let o = c.raise_op.ensures in
    record { own = o.own; swept = swepts_to (λ p h. of_op c.args.g.now.wiring.operations c.args.x p c.if-x-ge-EDGES.true h) (omega arith) o.swept; last = o.last }

pub raise_edge-requires : goal.raise_edge-requires
raise_edge-requires c = record { edge = item_edge _ _ _ c.requires.item (omega arith); room = c.requires.room }

pub returns : goal.returns
returns c =
    let o = c.raise_edge.ensures in
    record { own = o.own; swept = swepts_to (λ p h. of_edge c.args.g.now.wiring.operations c.args.x p (omega arith) h) (omega arith) o.swept; last = o.last }
