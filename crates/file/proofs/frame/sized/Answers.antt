-- The length is within its limits where their range contains it.
use borrow.Author.Rules.{rules}
use Rattle.judge_counts.proofs.Limits.{says_within}
use Rattle.file.proofs.frame.sized.Goals as goal

pub returns : goal.returns
returns c = says_within (search rules)
