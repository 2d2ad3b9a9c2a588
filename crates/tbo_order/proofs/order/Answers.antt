-- The invariant: between passes no item is lost.
use mathlib.Core.Path.{refl}
use native.Mathlib.Omega.{arith}
use Rattle.tbo_order.proofs.Sorting.{sort_end, sort_left, sort_start}
use Rattle.tbo_order.proofs.order.Goals as goal

pub enlist-requires : goal.enlist-requires
enlist-requires c = record { left_len = refl }

pub overflow_add-l : goal.overflow_add-l
overflow_add-l c = omega (arith, c.args.g.now.wired.operations, c.args.g.now.wired.edges)

pub loop-l-init : goal.loop-l-init
loop-l-init c = sort_start c.args.g.now.wired.edges c.enlist.ensures c.requires.ord_len

pub pass-s-requires : goal.pass-s-requires
pass-s-requires c = record { sorting = c.loop-l.invariant }

pub pass-requires : goal.pass-requires
pass-requires c = record { sorting = sort_left c.if-s-l.true c.pass-s.ensures.sorting }

pub returns-then-s-l : goal.returns-then-s-l
returns-then-s-l c = sort_end c.pass.ensures.sorting (c.pass.ensures.forced refl)

pub loop-l-smaller : goal.loop-l-smaller
loop-l-smaller c = omega (arith, c.pass-s.ensures.fewer)

pub loop-l-preserved : goal.loop-l-preserved
loop-l-preserved c = c.pass-s.ensures.sorting
