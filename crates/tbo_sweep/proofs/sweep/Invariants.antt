-- The invariant: the places of the first j items have been tried.
use Rattle.fraction.specs.helpers.Loads.{loaded_of}
use Prim.Native.Nat.{◌*◌}
use Rattle.tbo_sweep.specs.helpers.Raises.{SweptArrays}
use Rattle.tbo_sweep.specs.helpers.Places.{Among}
use Rattle.tbo_sweep.proofs.sweep.Given as goal

abbrev pub invariant-loop-x : goal.invariant-loop-x
invariant-loop-x l =
    SweptArrays (loaded_of l.g) l.rate.time l.rate.tokens (Among l.g.wiring.operations l.ord l.x-index) (3 * l.x-index) l.initial.d l.initial.pred l.d l.pred l.last
