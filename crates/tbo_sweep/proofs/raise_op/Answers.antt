-- Three raises, each of a place whose ends are known: `op_swept`.
use Prim.Native.Nat.{◌*◌, ◌+◌}
use mathlib.Core.Path.{ap, ◌∙◌}
use native.Mathlib.Omega.{arith}
use Rattle.std.specs.Option.{option_or}
use Rattle.fraction.specs.helpers.Loaded.{highest, most_time}
use Rattle.fraction.proofs.Loads.{place_gain, place_leads, row_runs}
use Rattle.tbo_sweep.proofs.Sweeping.{room_more, room_raised}
use Rattle.tbo_sweep.proofs.Tries.{op_swept, or_two}
use Rattle.tbo_sweep.proofs.raise_op.Goals as goal

pub raise-x-requires : goal.raise-x-requires
raise-x-requires c = record { place = place_leads c.args.g.now.weighted (row_runs c.args.g.now.weighted c.requires.row).0; room = room_more (omega arith) c.requires.room }

pub raise-y-requires : goal.raise-y-requires
raise-y-requires c =
    let runs = row_runs c.args.g.now.weighted c.requires.row in
    let room = room_raised (2 * highest) most_time (place_gain c.args.g.now.weighted runs.0 c.args.rate.pair) c.requires.room c.raise-x.ensures.raised in
    record { place = place_leads c.args.g.now.weighted runs.1; room = room_more (omega arith) room }

pub raise-requires : goal.raise-requires
raise-requires c =
    let runs = row_runs c.args.g.now.weighted c.requires.row in
    let once = room_raised (2 * highest) most_time (place_gain c.args.g.now.weighted runs.0 c.args.rate.pair) c.requires.room c.raise-x.ensures.raised in
    let twice = room_raised (2 * highest + most_time) most_time (place_gain c.args.g.now.weighted runs.1 c.args.rate.pair) once c.raise-y.ensures.raised in
    record { place = place_leads c.args.g.now.weighted runs.2; room = room_more (omega arith) twice }

pub returns : goal.returns
returns c =
    let x = c.raise-x.ensures in
    let y = c.raise-y.ensures in
    let z = c.raise.ensures in
    record {
      own = option_or z.own (option_or y.own x.own);
      swept = op_swept c.args.g.now.weighted c.requires.row x.raised y.raised z.raised;
      last = z.last ∙ ap (option_or z.own) (y.last ∙ ap (option_or y.own) x.last ∙ or_two y.own x.own c.args.last) ∙ or_two z.own (option_or y.own x.own) c.args.last;
    }
