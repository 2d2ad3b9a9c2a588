-- Where the extremes of every row are allowed, every edge is.
use Prim.Native.Nat.{ℕ, ◌≤◌}
use mathlib.Core.List.{List, []}
use native.Mathlib.Omega.{arith}
use Rattle.refusal.specs.Asking.{Kept}
use Rattle.net.specs.Plan.{rows}
use Rattle.net.specs.Rules.{RowAllowed, row6}
use Rattle.judge_extremes.specs.helpers.Extremes.{NoneAbove, NoneBelow}

pub extremes_kept : {n e least a b m f : ℕ} {from to mark buffers : List ℕ} → NoneBelow e to least → 1 ≤ least → NoneAbove e from a
    → NoneAbove e to b → NoneAbove e mark m → NoneAbove e buffers f → RowAllowed n a b m f → Kept (row6 (rows n e [] from to mark buffers))
extremes_kept low one from to mark buffers ok k l = record {
  leaves = omega (arith, from.above k l, ok.leaves);
  enters = record { low_met = omega (arith, low.below k l, one); high_met = omega (arith, to.above k l, ok.enters.high_met) };
  marked = omega (arith, mark.above k l, ok.marked);
  zero_byte = omega (arith, buffers.above k l, ok.zero_byte);
}
