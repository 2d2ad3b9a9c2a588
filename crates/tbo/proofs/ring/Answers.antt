-- The ring of an operation is a closed walk, and those are small enough for the code.
use Rattle.tbo_round.proofs.Ways.{tour_pair}
use Rattle.tbo.proofs.Attained.{ring_tour}
use Rattle.tbo.proofs.ring.Goals as goal

pub invariant_of-result : goal.invariant_of-result
invariant_of-result c = record { pair = rw (c.ring_time-time.ensures, c.ring_tokens-tokens.ensures) (tour_pair c.args.g.now.weighted (ring_tour c.args.g.now.weighted c.requires)) }

pub returns : goal.returns
returns c = rw (c.ring_time-time.ensures, c.ring_tokens-tokens.ensures) (ring_tour c.args.g.now.weighted c.requires)
