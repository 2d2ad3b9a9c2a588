-- A record that is cut short; one whose call is made; one whose letter names none.
use Rattle.std.proofs.Common.{◌+◌, ◌-◌, ◌∙◌, rules, arith}
use Rattle.std.proofs.lemmas.Slice.{drop-put_mid}
use Rattle.records.specs.Records.{made, short, unnamed}
use Rattle.records.proofs.Behind.{behind}
use Rattle.records.proofs.Records.{behind_part, both, made_of}
use Rattle.records.proofs.record.Goals as goal

pub returns-then-s-ends-clause-line : goal.returns-then-s-ends-clause-line
returns-then-s-ends-clause-line g c same =
    both c.cut.result c.cut.ensures.end c.cut.ensures.text (λ next e t. short c.part_ends-ends.ensures.ends c.if-s-ends.true t e)

pub returns-then-branch-clause-same : goal.returns-then-branch-clause-same
returns-then-branch-clause-same g c same =
    let ends = c.part_ends-ends.result in
    let from = ends.list + 2 in
    drop-put_mid from (ends.marking - from) c.args.copy.now c.with_list.new.marking ends.marking (omega arith) (omega (arith, c.requires.twice.same, c.if-s-ends.false)) (search rules)
    ∙ behind c.args.copy.now c.args.s.now c.args.at ends.marking (omega arith) same

pub returns-then-branch-clause-line : goal.returns-then-branch-clause-line
returns-then-branch-clause-line g c same =
    made (made_of c.args.s.now c.args.copy.now _ _ _ _ _ _ _ _ _ _ c.part_ends-ends.ensures.ends (omega (arith, c.if-s-ends.false)) same c.if-branch.true c.in_ok-with_list.ensures.line.1)

pub returns-clause-line : goal.returns-clause-line
returns-clause-line g c same =
    let none = made_of c.args.s.now c.args.copy.now _ _ _ _ _ _ _ _ _ _ c.part_ends-ends.ensures.ends (omega (arith, c.if-s-ends.false)) same c.if-branch.false c.in_ok-with_list.ensures.line.1 in
    both c.cut-2.result c.cut-2.ensures.end c.cut-2.ensures.text (λ next e t. unnamed none t e)

pub returns-in_err-with_list-clause-behind : goal.returns-in_err-with_list-clause-behind
returns-in_err-with_list-clause-behind g c f l m e =
    behind_part _ c.args.copy.now c.with_list.new.marking e c.part_ends-ends.ensures.ends (omega arith) (omega (arith, c.requires.twice.same, c.if-s-ends.false)) (search rules)

pub returns-then-branch-clause-behind : goal.returns-then-branch-clause-behind
returns-then-branch-clause-behind g c f l m e =
    behind_part _ c.args.copy.now c.with_list.new.marking e c.part_ends-ends.ensures.ends (omega arith) (omega (arith, c.requires.twice.same, c.if-s-ends.false)) (search rules)

pub returns-clause-behind : goal.returns-clause-behind
returns-clause-behind g c f l m e =
    behind_part _ c.args.copy.now c.with_list.new.marking e c.part_ends-ends.ensures.ends (omega arith) (omega (arith, c.requires.twice.same, c.if-s-ends.false)) (search rules)
