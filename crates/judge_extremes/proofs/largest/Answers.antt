-- No entry is above the largest that the fold picks.
use borrow.Author.Rules.{rules}
use native.Mathlib.Omega.{arith}
use Rattle.judge_extremes.proofs.Bounding.{folded_above}
use Rattle.judge_extremes.proofs.largest.Goals as goal

pub returns : goal.returns
returns c = folded_above 0 c.args.row.now (omega arith) (search rules)
