-- The two arrays are the computational graph's (`lent_weighted`); each part as its own call tells it is put together by `bounds_of`.
use Rattle.bounds_graph.proofs.Lending.{bounds_of, lent_live, lent_weighted}
use mathlib.Core.Path.{refl}
use Rattle.bounds_graph.proofs.measure.measure.Goals as goal

pub invariant_of-load : goal.invariant_of-load
invariant_of-load c = record { weighted = lent_weighted c.requires.good c.requires.holds_start c.transition_times.ensures }

pub largest-most-requires : goal.largest-most-requires
largest-most-requires c = record { live = lent_live c.requires.good c.requires.holds_start c.transition_times.ensures }

pub returns : goal.returns
returns c =
    bounds_of
    c.requires.good
    c.requires.holds_start
    c.transition_times.ensures
    c.largest-most.ensures
    c.choose-length.ensures
    c.path_sums-sums.ensures
    c.reduced-tbo.ensures
    refl
    refl
    refl
