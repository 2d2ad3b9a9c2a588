-- An edge that is not even has one end marked, so both ends are joined and one mark is new.
use native.Mathlib.Omega.{arith}
use Rattle.judge_joined.proofs.Reaching.{spread_more}
use Rattle.judge_joined.proofs.spread.Goals as goal

pub returns : goal.returns
returns c =
    let wired = c.args.g.now.wired in
    spread_more c.args.changed c.requires.reached c.requires.k_lt_e c.if-seen-a.false
    c.from-a.ensures c.from-b.ensures (omega (arith, wired.leaves c.args.k)) (omega (arith, wired.ends c.args.k))
