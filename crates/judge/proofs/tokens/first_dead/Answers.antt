-- The marking that is searched is the start, so the dead transitions that are found are row 9's.
use native.Mathlib.Omega.{arith}
use Rattle.judge.proofs.Dying.{finds_first}
use Rattle.judge.proofs.tokens.first_dead.Goals as goal

pub returns : goal.returns
returns c =
    let g = c.args.g.now.wiring in
    finds_first g.operations g.edges g.from.now g.to.now c.args.g.now.mark.now _ (λ p l. c.start_marking.ensures.filled p (omega arith) l) c.first_dead.ensures
