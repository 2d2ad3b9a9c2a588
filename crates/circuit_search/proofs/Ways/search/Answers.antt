-- The invariant: the search stands at x. What is left to try falls with each move.
use mathlib.Core.Path.{◌∙◌, sym}
use native.Mathlib.Omega.{arith}
use Rattle.circuit_tight.proofs.Entries.{source_told, target_told}
use Rattle.circuit_search.proofs.Endings.{left_less, outcome_at, outcome_gone, outcome_got, sought_no, sought_yes, under_start}
use Rattle.circuit_search.proofs.Ways.search.Goals as goal

pub loop-y-init : goal.loop-y-init
loop-y-init c =
    let enters = c.args.self.now.threaded.enters c.args.p c.requires.0 c.requires.1 in
    let apart = c.args.self.now.threaded.apart c.args.p c.requires.0 c.requires.1 in
    let root = (target_told c.args.self.now.lists.now.entries c.args.p c.from-root.ensures) in
    under_start c.args.self.now.threaded c.args.self.now.headed (omega (arith, enters, root)) (λ z. apart (sym (source_told c.args.self.now.lists.now.entries c.args.p c.from-goal.ensures) ∙ z ∙ root)) (omega arith)

pub loop-y-smaller : goal.loop-y-smaller
loop-y-smaller c =
    let turn = c.turn in
    left_less turn.ensures (outcome_at turn.ensures.outcome c.in-At.is)

pub loop-y-preserved : goal.loop-y-preserved
loop-y-preserved c = outcome_at c.turn.ensures.outcome c.in-At.is

pub returns-in-Reached : goal.returns-in-Reached
returns-in-Reached c =
    sought_yes (target_told c.args.self.now.lists.now.entries c.args.p c.from-root.ensures) (source_told c.args.self.now.lists.now.entries c.args.p c.from-goal.ensures) (outcome_got c.turn.ensures.outcome c.in-Reached.is)

pub returns-in-GivenUp : goal.returns-in-GivenUp
returns-in-GivenUp c =
    sought_no (target_told c.args.self.now.lists.now.entries c.args.p c.from-root.ensures) (source_told c.args.self.now.lists.now.entries c.args.p c.from-goal.ensures) (outcome_gone c.turn.ensures.outcome c.in-GivenUp.is)
