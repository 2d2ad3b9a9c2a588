-- `place`: the pile goes down.
use Rattle.dead_parts.proofs.Search.place.Given as goal

abbrev pub decreases-loop-u : goal.decreases-loop-u
decreases-loop-u l = l.self.pile.height
