-- Every entry lies between the two bounds.
use native.Mathlib.Omega.{arith}
use Rattle.net_main.proofs.Tables.{column_fresh, column_set}
use Rattle.net_main.proofs.column.Goals as goal

pub loop-k-init : goal.loop-k-init
loop-k-init c = column_fresh c.requires.2

pub loop-k-preserved : goal.loop-k-preserved
loop-k-preserved c =
    let l = c.loop-k in
    column_set l.k (omega arith) l.invariant (record { low = omega (arith, c.clamp.ensures); high = omega (arith, c.clamp.ensures) })
