-- The times so far are written.
use Rattle.std.specs.Io.KnownBytes.{Appends}
use Rattle.records_marking.specs.Lines.{times_text}
use Rattle.records_marking.proofs.times.Given as goal

abbrev pub invariant-loop-x : goal.invariant-loop-x
invariant-loop-x g l = Appends (g.W.Write.contents l.fn.output) (g.W.Write.contents l.output) (times_text l.g.times l.x-index)
