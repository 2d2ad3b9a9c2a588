-- `finishes` begins at 0 and settles.
use Rattle.paths_finish.proofs.Offers.{begun}
use Rattle.paths_finish.proofs.Settling.{settled_finished}
use Rattle.paths_finish.proofs.finishes.Goals as goal

pub settle-requires : goal.settle-requires
settle-requires c = begun c.requires

pub returns : goal.returns
returns c = settled_finished c.settle.ensures
