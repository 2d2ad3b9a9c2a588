-- The sum over the first times is that of the operations, at most 1,000,000 each: `times_sum`.
use Rattle.std.proofs.Common.{◌∙◌, take, arith}
use Rattle.std.proofs.lemmas.Iterator.{YieldsList-from_slice}
use Rattle.std.proofs.lemmas.Iterator.Consumers.{fits_from_yields_list, sum_from_yields_List}
use Rattle.paths_finish.proofs.Bounded.{effort_most, times_sum}
use Rattle.paths_finish.proofs.Passing.{good_passing}
use Rattle.paths.proofs.all_times.Goals as goal

pub sum-requires-clause-fits : goal.sum-requires-clause-fits
sum-requires-clause-fits c =
    let n = c.args.g.now.plotted.wiring.operations in
    let times = c.args.g.now.times.now in
    fits_from_yields_list _ _ (YieldsList-from_slice (take n times) cc) (omega (arith, effort_most (good_passing c.requires), times_sum times n))

pub returns : goal.returns
returns c =
    let n = c.args.g.now.plotted.wiring.operations in
    let times = c.args.g.now.times.now in
    sum_from_yields_List _ _ c.sum.ensures.ran (YieldsList-from_slice (take n times) cc) ∙ times_sum times n
