-- The finishes settle, and the three sums are read off them.
use Prim.Native.Nat.{◌+◌}
use native.Mathlib.Omega.{arith}
use Rattle.paths_finish.proofs.Passing.{good_passing}
use Rattle.paths.proofs.Sinks.{latest_tt}
use Rattle.paths.proofs.path_sums.Goals as goal

pub returns : goal.returns
returns c =
    record {
      tbio = c.finishes-finish.ensures.each (c.args.g.now.plotted.wiring.operations + 1) (omega arith);
      tt = latest_tt (good_passing c.requires) c.finishes-finish.ensures c.latest.ensures;
      tce = c.all_times.ensures;
    }
