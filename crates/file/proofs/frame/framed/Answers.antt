-- Each test that fails gives its refusal, since the tests before it have passed.
use Rattle.refusal.specs.Asking.{given, sound}
use Rattle.refusal.proofs.Answers.{said, denied}
use Rattle.file.proofs.Order.{framed_sound, refused_1, refused_2, refused_3, refused_4}
use Rattle.file.proofs.frame.framed.Goals as goal

pub returns-then-not-sized : goal.returns-then-not-sized
returns-then-not-sized c = rw c.refuse.ensures (given (refused_1 _ (denied c.sized.ensures c.if-not-sized.true)))

pub returns-then-not-signed : goal.returns-then-not-signed
returns-then-not-signed c =
    rw c.refuse-then-not-signed.ensures (given (refused_2 _ (said c.sized.ensures c.if-not-sized.false) (denied c.signed.ensures c.if-not-signed.true)))

pub returns-then-not-counted : goal.returns-then-not-counted
returns-then-not-counted c =
    rw c.refuse-then-not-counted.ensures
    (given (refused_3 _ (said c.sized.ensures c.if-not-sized.false) (said c.signed.ensures c.if-not-signed.false) (denied c.counted.ensures c.if-not-counted.true)))

pub laid-requires-clause-sized : goal.laid-requires-clause-sized
laid-requires-clause-sized c = said c.sized.ensures c.if-not-sized.false

pub returns-then-not-laid : goal.returns-then-not-laid
returns-then-not-laid c =
    rw c.refuse-then-not-laid.ensures
    (given
    (refused_4 _ (said c.sized.ensures c.if-not-sized.false) (said c.signed.ensures c.if-not-signed.false) (said c.counted.ensures c.if-not-counted.false)
    (denied c.laid.ensures c.if-not-laid.true)))

pub returns : goal.returns
returns c =
    sound
    (framed_sound
    (record {
      sized = said c.sized.ensures c.if-not-sized.false;
      signed = said c.signed.ensures c.if-not-signed.false;
      counted = said c.counted.ensures c.if-not-counted.false;
      laid = said c.laid.ensures c.if-not-laid.false;
    }))
