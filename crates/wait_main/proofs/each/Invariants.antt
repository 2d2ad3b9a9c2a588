-- Each file leaves fewer bytes behind it.
use lib.ListN.{length}
use Rattle.wait_main.proofs.each.Given as goal

abbrev pub decreases-loop-length : goal.decreases-loop-length
decreases-loop-length g l = length l.rest
