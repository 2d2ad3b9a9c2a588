-- The ends of the edges so far are marked, one edge more a turn.
use mathlib.Core.Path.{refl}
use Rattle.judge_links.proofs.Ticking.{ticks_none}
use Rattle.judge_links.proofs.tick.Goals as goal

pub loop-end-init : goal.loop-end-init
loop-end-init c = (refl, ticks_none _)
