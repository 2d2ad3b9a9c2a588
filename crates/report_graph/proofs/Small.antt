-- How large the numbers of an accepted graph's report can be, so that its text fits its room.
use mathlib.Core.List.{List}
use Prim.Native.Nat.{ℕ, ◌*◌, ◌<◌, ◌≤◌}
use native.Mathlib.Nat.{le_of_mul-le-mul_right, mul-le-mul_right}
use native.Mathlib.Omega.{arith}
use lib.ListN.{length}
use Rattle.marked.specs.Net.{Net, Proper, Walk, lasts, tokens}
use Rattle.marked.specs.Circuits.{Circuit}
use Rattle.marked.specs.Wait.{WaitSum}
use Rattle.marked.proofs.Demand.{wait_most}
use Rattle.marked.proofs.Entries.{all_at}
use Rattle.marked.proofs.Sizes.{circuit_length, walk_most, walk_places}
use Rattle.net.specs.Limits.{longest_time, most_transitions}
use Rattle.net.specs.Plan.{Plan, rows}
use Rattle.net.specs.Graph.{net_of, start_of, times_of}
use Rattle.net.specs.Good.{Good}
use Rattle.net.proofs.Shapes.{wired_proper}
use Rattle.net.proofs.Good.{good_short, marked_few}
use Rattle.tbo.specs.TBO.{TBO}
use Rattle.paths_finish.proofs.Passing.{good_passing}
use Rattle.paths_finish.proofs.Bounded.{effort_most}
use Rattle.paths.proofs.Order.{tbio_most, tt_most}
use Rattle.bounds_graph.specs.declared.reply.Measures.{Measures}
use Rattle.report_text.specs.helpers.Limits.{Printable}
use Rattle.report_text.proofs.FitLaws.{report_fits}
use Rattle.report_graph.specs.Numbers.{Numbers, text_of}
use Rattle.report_text.specs.Room.{report_bytes}

module _ {n e : ℕ} {times from to mark buffers : List ℕ} (ok : Good n e times from to mark buffers) where
  abbrev g : Plan
  g = rows n e times from to mark buffers

  abbrev net : Net
  net = net_of g

  proper : Proper net
  proper = wired_proper ok.wired

  few : {a b : ℕ} {ps : List ℕ} → Walk net a b ps → tokens (start_of g) ps ≤ length ps * 1
  few w = walk_most (start_of g) 1 (marked_few ok.marked) w

  -- A circuit has at most as many places as there can be transitions, each of a short time and few tokens.
  ring_length : {c : ℕ} {ps : List ℕ} → Circuit net c ps → length ps ≤ most_transitions
  ring_length c = omega (arith, circuit_length net proper c, ok.wired.operations)

  ring_lasts : {c : ℕ} {ps : List ℕ} → Circuit net c ps → lasts net (times_of g) ps ≤ most_transitions * longest_time
  ring_lasts c = omega (arith, ring_length c, walk_most (λ p. times_of g (net.src p)) longest_time (λ p h. good_short ok (net.src p) (proper.src_in p h)) c.walk)

  -- TBO in lowest terms has no more than the circuit that attains it.
  pub tbo_small : {a b : ℕ} → TBO g a b → (a ≤ most_transitions * longest_time) × (b ≤ most_transitions)
  tbo_small {a} {b} x =
      let l = x.largest in
      let c = l.circuit in
      let t : ℕ = lasts net (times_of g) l.ring in
      let m : ℕ = tokens (start_of g) l.ring in
      let some : 1 ≤ m = ok.live _ _ c.walk c.some in
      let low : b ≤ m = x.reduced.least t m some (omega (arith, l.attains)) in
      let up : a ≤ t = le_of_mul-le-mul_right {k = m} (omega (arith, l.attains, mul-le-mul_right t low)) some in
      (omega (arith, ring_lasts c), omega (arith, few c.walk, ring_length c))

  -- A wait is short.
  start_wait_small : {t w : ℕ} → WaitSum net (start_of g) t w → w ≤ most_transitions * (most_transitions * 1)
  start_wait_small x = wait_most proper most_transitions 1 (omega (arith, ok.wired.operations)) (marked_few ok.marked) x

  module _ {v : Measures} {ring : List ℕ} {wait : ℕ → ℕ} (r : Numbers g v ring wait) where
    printable : Printable n e v.numerator v.denominator v.tbio v.tt v.tce ring wait
    printable =
        let pass = good_passing ok in
        let most : v.tce ≤ 40000000 = omega (arith, r.tce, effort_most pass) in
        let more : v.tt ≤ v.tce = tt_most pass r.tt r.tce in
        record {
          counts = record { operations = ok.wired.operations; edges = ok.wired.edges };
          numerator = omega (arith, (tbo_small r.tbo).0);
          denominator = omega (arith, (tbo_small r.tbo).1);
          tbio = omega (arith, tbio_most r.tbio r.tt);
          total = omega arith;
          tce = omega arith;
          circuit = ring_length r.circuit.circuit;
          places = λ i l. omega (arith, all_at (◌< net.places) ring i (walk_places r.circuit.circuit.walk) l, ok.wired.operations, ok.wired.edges);
          waited = λ t l. omega (arith, start_wait_small (r.waits t l));
        }

    -- The report of every accepted graph fits.
    pub numbers_fit : length (text_of g v ring wait) ≤ report_bytes
    numbers_fit = report_fits printable
