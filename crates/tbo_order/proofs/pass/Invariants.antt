-- The invariant: the pass stands at i.
use mathlib.Core.Path.{◌≡◌}
use mathlib.Core.Bool.{true}
use Rattle.tbo_order.specs.helpers.Items.{Sorting}
use Rattle.tbo_order.proofs.pass.Given as goal

abbrev pub invariant-loop-i : goal.invariant-loop-i
invariant-loop-i l = Sorting l.g.operations l.g.edges l.left l.ord l.i l.l l.m l.p × (l.force ≡ true → l.m ≡ 0)
