-- The ends of the edges so far are marked, one edge more a turn.
use mathlib.Core.Path.{◌≡◌}
use lib.ListN.{length}
use Rattle.judge_links.specs.helpers.Ticks.{Ticks}
use Rattle.judge_links.proofs.tick.Given as goal

abbrev pub invariant-loop-end : goal.invariant-loop-end
invariant-loop-end l = (length l.seen ≡ 42) × Ticks l.end-index l.ends l.seen
