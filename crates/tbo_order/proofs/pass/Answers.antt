-- The invariant: the pass stands at i.
use native.Mathlib.Omega.{arith}
use mathlib.Core.Path.{refl, ◌∙◌}
use Rattle.tbo_order.proofs.Sorting.{sort_again}
use Rattle.tbo_order.proofs.pass.Goals as goal

pub loop-i-init : goal.loop-i-init
loop-i-init c = (c.requires.sorting, λ z. refl)

pub take-s-requires : goal.take-s-requires
take-s-requires c = record { i_lt_l = omega arith; sorting = c.loop-i.invariant.0 }

pub loop-i-preserved : goal.loop-i-preserved
loop-i-preserved c = (c.take-s.ensures.sorting, λ z. c.take-s.ensures.forced z ∙ c.loop-i.invariant.1 z)

pub returns : goal.returns
returns c =
    let inv = c.loop-i.invariant in
    record { sorting = sort_again inv.0 (omega (arith, inv.0.within)); fewer = omega (arith, inv.0.behind, inv.0.within); forced = inv.1 }
