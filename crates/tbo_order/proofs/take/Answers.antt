-- The item is put in order, or kept.
use mathlib.Core.Path.{refl, sym, ◌∙◌}
use mathlib.Core.Bool.{true≢false}
use native.Mathlib.Omega.{arith}
use Rattle.tbo_order.proofs.Sorting.{room_next, sort_item, sort_kept, sort_put}
use Rattle.tbo_order.proofs.take.Goals as goal

pub bounds-left-i : goal.bounds-left-i
bounds-left-i c =
    omega (arith, room_next c.requires.sorting c.args.g.now.wired.operations c.args.g.now.wired.edges c.requires.i_lt_l, c.requires.sorting.wide)

pub end-requires : goal.end-requires
end-requires c = rw c.from-k.ensures (sort_item c.requires.sorting c.args.g.now.wired.operations c.args.g.now.wired.edges c.requires.i_lt_l)

pub end-t-requires : goal.end-t-requires
end-t-requires c = rw c.from-k.ensures (sort_item c.requires.sorting c.args.g.now.wired.operations c.args.g.now.wired.edges c.requires.i_lt_l)

pub returns-then-ready : goal.returns-then-ready
returns-then-ready c =
    record { sorting = sort_put c.requires.sorting c.args.g.now.wired.operations c.args.g.now.wired.edges c.requires.i_lt_l refl; forced = λ z. refl }

pub returns : goal.returns
returns c =
    record {
      sorting = sort_kept c.requires.sorting c.args.g.now.wired.operations c.args.g.now.wired.edges c.requires.i_lt_l refl;
      forced = λ z. absurd (true≢false (sym (c.ready.ensures z) ∙ c.if-ready.false));
    }
