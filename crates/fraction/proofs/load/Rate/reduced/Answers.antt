-- Divided by what both have in common.
use Rattle.fraction.proofs.Euclid.{in_lowest}
use Rattle.fraction.proofs.load.Rate.reduced.Goals as goal

pub returns : goal.returns
returns c = in_lowest c.args.self.time c.args.self.tokens c.divisor-g.result c.requires c.divisor-g.ensures
