-- The computational graph that a good graph's helpers are lent: the starting marking and the time of every transition, as arrays.
use mathlib.Core.Path.{◌≡◌, ◌∙◌}
use mathlib.Core.List.{List}
use Prim.Native.Nat.{◌*◌, ◌+◌, ◌-◌, ◌/◌, ◌%◌, ◌<◌, ◌≤◌, ℕ}
use native.Mathlib.Decide.{dec_lt, ℕ_discrete}
use native.Mathlib.Omega.{arith}
use Rattle.marked.specs.Net.{Proper, at}
use Rattle.marked.specs.Circuits.{Live}
use Rattle.marked.proofs.Alike.{largest_alike, sum_alike}
use Rattle.marked.proofs.Reduce.{largest_same}
use Rattle.net.specs.Limits.{longest_time}
use Rattle.net.specs.Plan.{Plan, rows, time_at, wires}
use Rattle.net.specs.Ends.{start_at, time_of}
use Rattle.net.specs.Graph.{net_of, start_of, times_of}
use Rattle.net.specs.Good.{Good}
use Rattle.net_start.specs.helpers.Start.{HoldsStart}
use Rattle.net_start.specs.helpers.Times.{Timed}
use Rattle.net.proofs.Shapes.{start_ready, start_ring, start_single, time_other, time_process, wired_proper}
use Rattle.fraction.specs.helpers.Loaded.{Weighted, loaded, most_tokens}
use Rattle.fraction.specs.helpers.Terms.{InLowest}
use Rattle.paths.specs.helpers.Answers.{SumsOf}
use Rattle.paths.specs.declared.Sums.{Sums}
use Rattle.tbo.specs.helpers.LargestBy.{LargestBy}
use Rattle.circuit.specs.Chosen.{Handed}
use Rattle.circuit.proofs.Alike.{handed_alike}
use Rattle.circuit.proofs.Unique.{handed_same}
use Rattle.bounds_graph.specs.Measured.{BoundsOf}
use Rattle.bounds_graph.specs.declared.reply.Measures.{Measures}

module _
    {n e : ℕ} {times from to mark buffers marking spans : List ℕ} (good : Good n e times from to mark buffers)
    (started : HoldsStart n e mark marking) (timed : Timed n times spans) where
  abbrev g : Plan
  g = rows n e times from to mark buffers

  proper : Proper (net_of g)
  proper = wired_proper good.wired

  tokened : (p : ℕ) → p < 3 * n + 2 * e → at marking p ≡ start_of g p
  tokened = started.each

  few : (p : ℕ) → p < 3 * n + 2 * e → start_at n (at mark) p ≤ most_tokens
  few p h = elim (dec_lt p (3 * n)) [
    | yes k ↦ elim (ℕ_discrete (p % 3) 2) [
      | yes j ↦ omega (arith, start_ready n (at mark) p k j)
      | no j ↦ omega (arith, start_ring n (at mark) p k j)
    ]
    | no k ↦ omega (arith, start_single n (at mark) p (good.marked.single ((p - 3 * n) / 2) (omega arith)))
  ]

  short : (t : ℕ) → t < 3 * n + 2 → time_of (time_at times) t ≤ longest_time
  short t h = elim (ℕ_discrete (t % 3) 2) [
    | yes k ↦ omega (arith, time_process (time_at times) t k, (good.timely (t / 3 + 1) (record { low_met = omega arith; high_met = omega arith })).high_met)
    | no k ↦ omega (arith, time_other (time_at times) t k)
  ]

  -- What the code asks of the arrays,
  pub lent_weighted : Weighted n e from to marking spans
  lent_weighted =
      record {
        wired = good.wired;
        few = λ p h. omega (arith, tokened p h, few p h);
        short = λ t h. omega (arith, timed.each t h, short t h);
      }

  pub lent_live : Live (net_of (wires n e from to)) (at marking)
  lent_live a ps w some = omega (arith, good.live a ps w some, sum_alike (at marking) (start_of g) tokened w)

  -- and what it tells of them: the certificate is for the time and the tokens of a closed walk, a / b; what is told is the same fraction in lowest terms.
  pub bounds_of :
      {a b : ℕ} {d before after : List ℕ} {s : Sums} {r : Measures}
      → LargestBy (loaded n e from to marking spans) a b d
      → Handed (net_of (wires n e from to)) (at marking) (at spans) a b before r.length after
      → SumsOf n e times from to mark buffers s
      → InLowest a b r.numerator r.denominator
      → r.tbio ≡ s.tbio
      → r.tt ≡ s.tt
      → r.tce ≡ s.tce
      → BoundsOf g before r after
  bounds_of {a} {b} {s = s} {r = r} x h t low etbio ett etce =
      let c = r.numerator in
      let k = r.denominator in
      let same = low.same in
      let largest = largest_alike (net_of g) proper (at marking) (start_of g) (at spans) (times_of g) tokened timed.each a b x.largest in
      let circuit = handed_alike (net_of g) proper (at marking) (start_of g) (at spans) (times_of g) tokened timed.each a b h in
      record {
        tbo_is = record { largest = largest_same (net_of g) (start_of g) (times_of g) a b c k x.positive same largest; reduced = low.reduced };
        tbio_is = rw etbio t.tbio;
        tt_is = rw ett t.tt;
        tce_is = etce ∙ t.tce;
        circuit = handed_same (net_of g) (start_of g) (times_of g) a b c k x.positive low.reduced.positive same circuit;
      }
