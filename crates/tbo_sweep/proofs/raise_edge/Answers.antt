-- Two raises, each of a place whose ends are known: `edge_swept`.
use Prim.Native.Nat.{◌*◌}
use mathlib.Core.Path.{ap, ◌∙◌}
use native.Mathlib.Omega.{arith}
use Rattle.std.specs.Option.{option_or}
use Rattle.fraction.specs.helpers.Loaded.{highest, most_time}
use Rattle.fraction.proofs.Loads.{edge_runs, place_gain, place_leads}
use Rattle.tbo_sweep.proofs.Sweeping.{room_more, room_raised}
use Rattle.tbo_sweep.proofs.Tries.{edge_swept, or_two}
use Rattle.tbo_sweep.proofs.raise_edge.Goals as goal

pub raise-x-requires : goal.raise-x-requires
raise-x-requires c =
    let runs = edge_runs c.args.g.now.weighted c.requires.edge c.writer-u.ensures.is c.reader-v.ensures.is in
    record { place = place_leads c.args.g.now.weighted runs.0; room = room_more (omega arith) c.requires.room }

pub raise-requires : goal.raise-requires
raise-requires c =
    let runs = edge_runs c.args.g.now.weighted c.requires.edge c.writer-u.ensures.is c.reader-v.ensures.is in
    let room = room_raised (2 * highest) most_time (place_gain c.args.g.now.weighted runs.0 c.args.rate.pair) c.requires.room c.raise-x.ensures.raised in
    record { place = place_leads c.args.g.now.weighted runs.1; room = room_more (omega arith) room }

pub returns : goal.returns
returns c =
    let x = c.raise-x.ensures in
    let y = c.raise.ensures in
    record {
      own = option_or y.own x.own;
      swept = edge_swept c.args.g.now.weighted c.requires.edge c.writer-u.ensures.is c.reader-v.ensures.is x.raised y.raised;
      last = y.last ∙ ap (option_or y.own) x.last ∙ or_two y.own x.own c.args.last;
    }
