-- Row by row: the refusal of the first that is broken, or all are kept.
use mathlib.Core.Path.{refl}
use Rattle.std.proofs.lemmas.Result.{err_from_is_err_and}
use Rattle.refusal.specs.Asking.{given}
use Rattle.refusal.specs.declared.Reason.TheVariants.{CircuitDead, EdgeWrong, NodeApart, NodeLoose, TimeWrong}
use Rattle.refusal.proofs.Asked.{given_next, judged_next}
use Rattle.net.specs.Plan.{Plan}
use Rattle.net.specs.Rules.{row5, row6, row7, row8}
use Rattle.net.specs.helpers.Tables.{plan_of_rows}
use Rattle.judge.proofs.Asking.{told_given, told_judged, told_kept}
use Rattle.judge.proofs.judge.Goals as goal

pub returns-in_err-asked : goal.returns-in_err-asked
returns-in_err-asked c =
    let p = err_from_is_err_and c.from_residual.result c.from_residual.ensures.1 in
    rw (p.1, p.2) (given (told_given TimeWrong c.first_late.result refl c.first_late.ensures c.in_err-asked.ensures))

pub returns-in_err-asked-2 : goal.returns-in_err-asked-2
returns-in_err-asked-2 c =
    let p = err_from_is_err_and c.from_residual-in_err-asked-2.result c.from_residual-in_err-asked-2.ensures.1 in
    let g : Plan = plan_of_rows c.args.g.now in
    rw (p.1, p.2)
    (given
    (given_next (told_kept (row5 g) TimeWrong c.first_late.result c.first_late.ensures c.in_ok-asked.ensures)
    (told_given EdgeWrong c.first_wrong.result refl c.first_wrong.ensures c.in_err-asked-2.ensures)))

pub returns-in_err-asked-3 : goal.returns-in_err-asked-3
returns-in_err-asked-3 c =
    let p = err_from_is_err_and c.from_residual-in_err-asked-3.result c.from_residual-in_err-asked-3.ensures.1 in
    let g : Plan = plan_of_rows c.args.g.now in
    rw (p.1, p.2)
    (given
    (given_next (told_kept (row5 g) TimeWrong c.first_late.result c.first_late.ensures c.in_ok-asked.ensures)
    (given_next (told_kept (row6 g) EdgeWrong c.first_wrong.result c.first_wrong.ensures c.in_ok-asked-2.ensures)
    (told_given NodeLoose c.first_bare.result refl c.first_bare.ensures c.in_err-asked-3.ensures))))

pub returns-in_err-asked-4 : goal.returns-in_err-asked-4
returns-in_err-asked-4 c =
    let p = err_from_is_err_and c.from_residual-in_err-asked-4.result c.from_residual-in_err-asked-4.ensures.1 in
    let g : Plan = plan_of_rows c.args.g.now in
    rw (p.1, p.2)
    (given
    (given_next (told_kept (row5 g) TimeWrong c.first_late.result c.first_late.ensures c.in_ok-asked.ensures)
    (given_next (told_kept (row6 g) EdgeWrong c.first_wrong.result c.first_wrong.ensures c.in_ok-asked-2.ensures)
    (given_next (told_kept (row7 g) NodeLoose c.first_bare.result c.first_bare.ensures c.in_ok-asked-3.ensures)
    (told_given NodeApart c.first_apart.result refl c.first_apart.ensures c.in_err-asked-4.ensures)))))

pub returns : goal.returns
returns c =
    let g : Plan = plan_of_rows c.args.g.now in
    judged_next (told_kept (row5 g) TimeWrong c.first_late.result c.first_late.ensures c.in_ok-asked.ensures)
    (judged_next (told_kept (row6 g) EdgeWrong c.first_wrong.result c.first_wrong.ensures c.in_ok-asked-2.ensures)
    (judged_next (told_kept (row7 g) NodeLoose c.first_bare.result c.first_bare.ensures c.in_ok-asked-3.ensures)
    (judged_next (told_kept (row8 g) NodeApart c.first_apart.result c.first_apart.ensures c.in_ok-asked-4.ensures)
    (told_judged CircuitDead c.first_dead.result refl c.first_dead.ensures c.asked-5.ensures))))
