-- `settle` ends: a sweep that changes something raises the sum of the entries, and no entry exceeds the sum of all times.
use Rattle.std.proofs.Common.{◌*◌, ◌-◌}
use Rattle.net.specs.helpers.Tables.{accepted_over, plan_of_accepted}
use Rattle.paths_finish.specs.Longest.{effort}
use Rattle.marked.specs.Sums.{total}
use Rattle.paths_finish.specs.helpers.Finishing.{Backed}
use Rattle.paths_finish.proofs.settle.Given as goal

abbrev pub invariant-loop : goal.invariant-loop
invariant-loop l = accepted_over Backed l.g l.finish

abbrev pub decreases-loop : goal.decreases-loop
decreases-loop l = 42 * effort (plan_of_accepted l.g) - total l.finish
