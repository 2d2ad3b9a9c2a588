-- The sweeps settle, which certifies; or the notes come round, which is a better ring.
use Prim.Native.Nat.{◌+◌, ◌*◌}
use Rattle.marked.specs.Net.{at}
use Rattle.net.specs.Graph.{net_of}
use Rattle.net.specs.helpers.Wirings.{wires_of}
use Rattle.fraction.specs.helpers.Loaded.{most_time}
use Rattle.tbo_sweep.specs.helpers.Raises.{Room}
use Rattle.tbo.specs.helpers.Improved.{lowly}
use Rattle.tbo.proofs.Running.{Running}
use Rattle.tbo.proofs.improve.improve.Given as goal

-- The invariant: so many sweeps have led here. A sweep that raises nothing certifies; notes that come round are a better closed walk; and after as many sweeps as transitions they do.
abbrev pub invariant-loop : goal.invariant-loop
invariant-loop l =
    Running (net_of (wires_of l.g.wiring)) (at l.g.marking.now) (at l.g.times.now) l.rate.time l.rate.tokens (at l.initial.d) (at l.d) (at l.pred) l.counter × Room (lowly + l.counter * (1000 * most_time)) l.d l.pred
