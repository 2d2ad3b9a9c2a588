-- An edge offers its target a later finish, or none.
use mathlib.Core.Path.{◌∙◌}
use native.Mathlib.Omega.{arith}
use Rattle.paths_finish.proofs.Bounded.{chain_most, effort_most}
use Rattle.paths_finish.proofs.Offers.{offered, read_marked, read_unmarked}
use Rattle.paths_finish.proofs.Passing.{good_passing}
use Rattle.paths_finish.proofs.Sweeps.{lifted_as}
use Rattle.paths_finish.proofs.raise.Goals.{else-g-k-eq0, then-g-k-eq0}
use Rattle.paths_finish.proofs.raise.Goals as goal

pub overflow_add-x : goal.overflow_add-x
overflow_add-x c =
    let edge = read_unmarked c.requires.backed c.requires.k_lt_e c.from-b.ensures c.node_time-own.ensures c.if-g-k-eq0.true c.from.ensures in
    let ok = good_passing c.requires.backed.good in
    omega (arith, chain_most ok (offered c.requires.backed c.requires.k_lt_e), effort_most ok)

pub returns : goal.returns
returns c = elim c.if-g-k-eq0.branch [
  | then-g-k-eq0 w ↦
      let offer = read_unmarked c.requires.backed c.requires.k_lt_e c.from-b.ensures c.node_time-own.ensures w.if-g-k-eq0.true w.from.ensures in
      lifted_as c.from-b.ensures (w.x-is ∙ offer) c.lift.ensures
  | else-g-k-eq0 w ↦
      let offer = read_marked c.requires.backed c.requires.k_lt_e c.from-b.ensures c.node_time-own.ensures w.if-g-k-eq0.false in
      lifted_as c.from-b.ensures (w.x-is ∙ offer) c.lift.ensures
]
