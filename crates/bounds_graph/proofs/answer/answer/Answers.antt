-- Row 14, then the bounds as they are measured.
use Rattle.bounds_graph.specs.helpers.Answered.{bounded, refused}
use native.Mathlib.Omega.{arith}
use Rattle.bounds_graph.proofs.answer.answer.Goals as goal

pub returns-then-circuit-transitions : goal.returns-then-circuit-transitions
returns-then-circuit-transitions c = rw c.refuse.ensures (refused (λ h. omega (arith, c.if-circuit-transitions.true, c.transitions.ensures)))

pub returns : goal.returns
returns c = bounded (omega (arith, c.if-circuit-transitions.false, c.transitions.ensures)) c.measure.ensures
