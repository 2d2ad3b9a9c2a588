-- `settle` ends: a sweep that changes something raises the sum of the entries, and no entry exceeds the sum of all times.
use native.Mathlib.Omega.{arith}
use Rattle.paths_finish.proofs.Bounded.{entries_most}
use Rattle.paths_finish.proofs.settle.Goals as goal

pub loop-smaller : goal.loop-smaller
loop-smaller c = omega (arith, c.sweep.ensures.loud c.loop-test.true, entries_most c.sweep.ensures.backed)
