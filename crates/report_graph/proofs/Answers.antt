-- From what the code below tells to the reply: the bounds' circuit is the ring's beginning.
use mathlib.Core.Path.{◌≡◌, ◌∙◌, ap, sym}
use mathlib.Core.List.{List}
use Prim.Native.Nat.{◌*◌, ◌+◌, ◌≤◌, ℕ}
use native.Mathlib.Omega.{arith}
use lib.ListN.{drop, length, length-append, take}
use lib.Seq.{take_at}
use Rattle.marked.specs.Net.{at}
use Rattle.marked.proofs.Demand.{wait_sum_same}
use Rattle.marked.proofs.Sizes.{circuit_length}
use Rattle.net.specs.Limits.{most_transitions}
use Rattle.net.specs.Plan.{rows}
use Rattle.net.specs.Graph.{net_of}
use Rattle.net.specs.Good.{Good}
use Rattle.net.proofs.Shapes.{wired_proper}
use Rattle.net_start.specs.helpers.Start.{HoldsStart}
use Rattle.bounds_graph.specs.Measured.{BoundsOf}
use Rattle.bounds_graph.specs.declared.reply.Measures.{Measures}
use Rattle.report_text.specs.helpers.Limits.{Writable}
use Rattle.report_graph.specs.Numbers.{Numbers}
use Rattle.report_text.specs.Room.{report_bytes}
use Rattle.report_graph.specs.helpers.Waited.{Waited}
use Rattle.report_graph.proofs.Small.{tbo_small}

module _
    {n e : ℕ} {times from to mark buffers : List ℕ} (ok : Good n e times from to mark buffers) {before after : List ℕ} {v : Measures}
    (o : BoundsOf (rows n e times from to mark buffers) before v after) where
  -- The circuit stands in the ring's first entries.
  pub ring_within : v.length ≤ length after
  ring_within = omega (arith, ap length o.circuit.written, length-append o.circuit.ring (drop v.length before), o.circuit.long)

  ring_short : v.length ≤ most_transitions
  ring_short = omega (arith, o.circuit.long, circuit_length (net_of (rows n e times from to mark buffers)) (wired_proper ok.wired) o.circuit.chosen.circuit, ok.wired.operations)

  ring_is : take v.length after ≡ o.circuit.ring
  ring_is = ap (take v.length) o.circuit.written ∙ take_at o.circuit.ring (drop v.length before) v.length o.circuit.long

  pub ring_count : v.length ≡ length (take v.length after)
  ring_count = sym (ap length ring_is ∙ o.circuit.long)

  pub ring_writable : {buf waits : List ℕ} → report_bytes ≤ length buf → 3 * n + 2 ≤ length waits
      → Writable buf n e v.numerator v.denominator (take v.length after) waits
  ring_writable room each =
      let t = tbo_small ok o.tbo_is in
      record {
        room = room;
        counts = record { operations = ok.wired.operations; edges = ok.wired.edges };
        numerator = omega (arith, t.0);
        denominator = omega (arith, t.1);
        circuit = omega (arith, ring_short, ring_count);
        each = each;
      }

  -- So these are the report's numbers, since the marking is the start.
  pub bounds_numbers : {marking zeros waits : List ℕ} → HoldsStart n e mark marking → Waited n e from to marking zeros waits
      → Numbers (rows n e times from to mark buffers) v (take v.length after) (at waits)
  bounds_numbers h w = record {
    tbo = o.tbo_is;
    tbio = o.tbio_is;
    tt = o.tt_is;
    tce = o.tce_is;
    circuit = rw ring_is o.circuit.chosen;
    waits = λ t l. wait_sum_same h.each (w.each t l);
  }
