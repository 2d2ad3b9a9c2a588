-- What is written of one record goes before what is written of the others.
use Rattle.std.proofs.Common.{rules}
use Rattle.records.specs.Records.{ended, more}
use Rattle.records.proofs.each.Goals as goal

pub loop-at-preserved : goal.loop-at-preserved
loop-at-preserved g c =
    let before = c.loop-at.invariant.2 in
    (search rules, search rules, λ e. (c.in_ok-at.ensures.same (before e).0, λ end l. (before e).1 end (more c.loop-at-test.true (c.in_ok-at.ensures.line (before e).0) l)))

pub returns : goal.returns
returns g c e = (c.loop-at.invariant.2 e).1 _ (ended c.loop-at-test.false)
