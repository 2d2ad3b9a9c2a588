-- The line has at most 21 bytes, so it fits.
use Prim.Native.Nat.{◌<◌}
use native.Mathlib.Omega.{arith}
use borrow.Author.Rules.{rules}
use Rattle.report_text.proofs.FitLaws.{refused_fits}
use Rattle.report_lines.proofs.write_refused.Goals as goal

pub pair_line-requires : goal.pair_line-requires
pair_line-requires c =
    let short : c.args.refusal.place < 65536 = search rules in
    record { room = omega (arith, refused_fits c.from-reason.result c.from.result (omega arith) (omega arith)) }
