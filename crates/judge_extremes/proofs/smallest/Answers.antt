-- No entry is below the smallest that the fold picks.
use borrow.Author.Rules.{rules}
use native.Mathlib.Omega.{arith}
use Rattle.judge_extremes.proofs.Bounding.{folded_below}
use Rattle.judge_extremes.proofs.smallest.Goals as goal

pub returns : goal.returns
returns c = folded_below 255 c.args.row.now (omega arith) (search rules)
