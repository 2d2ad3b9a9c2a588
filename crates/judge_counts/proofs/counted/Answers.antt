-- The two counts, one after the other.
use Rattle.refusal.specs.helpers.Answers.{fails}
use Rattle.refusal.proofs.Answers.{denied, said, says_map}
use borrow.Author.Rules.{rules}
use Rattle.judge_counts.proofs.Limits.{says_within}
use Rattle.judge_counts.proofs.counted.Goals as goal

pub returns-then-contains : goal.returns-then-contains
returns-then-contains c =
    says_map (λ h. record { operations = said (says_within (search rules)) c.if-contains.true; edges = h }) (λ h. h.edges) (says_within (search rules))

pub returns-else-contains : goal.returns-else-contains
returns-else-contains c = rw c.if-contains.false (fails (λ h. denied (says_within (search rules)) c.if-contains.false h.operations))
