-- Look has accepted, so the graph is good.
use Rattle.reader.proofs.Accepting.{accepted_good}
use Rattle.wait_main.proofs.show_file.Goals as goal

pub lend-requires : goal.lend-requires
lend-requires g c = accepted_good c.args.file.now c.in-Ok.ensures
