-- From a certificate and a closed walk that attains it to the largest ratio over circuits; and why the improvement ends.
use mathlib.Core.Path.{◌≡◌, refl, sym, subst, ap}
use mathlib.Core.Logic.{◌⊎◌, inl, inr}
use mathlib.Core.List.{List, [], ◌++◌, ◌∷◌}
use Prim.Native.Nat.{◌*◌, ◌+◌, ◌-◌, ◌/◌, ◌<◌, ◌≤◌, ℕ}
use native.Mathlib.Omega.{arith}
use native.Mathlib.Nat.{mul_comm}
use lib.ListN.{length}
use Rattle.marked.specs.Lists.{All, Distinct}
use Rattle.marked.specs.Sums.{sum}
use Rattle.marked.specs.Net.{Net, Walk, at, go, lasts, stop, tokens}
use Rattle.marked.specs.Circuits.{Live, froms}
use Rattle.marked.specs.Bounds.{Certifies, Largest, Tight}
use Rattle.marked.proofs.Entries.{all_left, all_right}
use Rattle.marked.proofs.Walks.{join}
use Rattle.marked.proofs.Certificate.{attains_tight, certified, tight_attains}
use Rattle.marked.proofs.Loops.{Looped, loop}
use Rattle.marked.proofs.Fraction.{ratio_bound, ratio_step}
use Rattle.net.specs.Limits.{longest_time}
use Rattle.net.specs.Plan.{wires}
use Rattle.net.specs.Graph.{net_of}
use Rattle.net.proofs.Table.{step}
use Rattle.fraction.specs.helpers.Loaded.{Weighted, loaded, most_tokens}
use Rattle.fraction.proofs.Loads.{row_runs, weighted_short}
use Rattle.tbo_round.specs.helpers.Chains.{Tour}
use Rattle.tbo.specs.helpers.LargestBy.{LargestBy}
use Rattle.tbo.specs.helpers.Improved.{Improved, Improves}
use Rattle.tbo.specs.helpers.Improved.Improves.{beaten, certified as proven}
use Rattle.std.specs.Prelude.{Option, None, Some}
use Rattle.fraction.specs.declared.load.Rate.{Rate}
use Rattle.tbo_round.proofs.Ways.{tour_holds, tour_lasts, tour_pair}

-- A closed walk that comes to no transition twice has no place.
closed_none : {g : Net} {a b : ℕ} {ps : List ℕ} → Walk g a b ps → a ≡ b → Distinct (b ∷ froms g ps) → length ps ≡ 0
closed_none stop e d = refl
closed_none (go p h w) e d = absurd (d.0.0 (sym e))

module _ {g : Net} {m time : ℕ → ℕ} {a b : ℕ} (D : ℕ → ℕ) (cert : Certifies g m time a b D) (o : Tour g m time a b) where
  attained : Largest g m time a b
  attained = at (loop g o.walk)
    where
      at : Looped g o.turn o.turn o.places ⊎ Distinct (o.turn ∷ froms g o.places) → Largest g m time a b
      at (inr d) = absurd (omega (arith, o.some, closed_none o.walk refl d))
      at (inl r) =
          let e : b * lasts g time o.places ≡ a * tokens m o.places = rw (o.lasts, o.holds) (mul_comm b a) in
          let t : All (Tight g m time a b D) o.places = attains_tight g m time a b D cert o.walk e in
          let u : All (Tight g m time a b D) (r.before ++ (r.ring ++ r.after)) = subst (λ (l : List ℕ). All (Tight g m time a b D) l) r.parts t in
          let v = all_left (Tight g m time a b D) r.ring r.after (all_right (Tight g m time a b D) r.before (r.ring ++ r.after) u) in
          record {
            bound = λ c ps x. certified g m time a b D cert x.walk;
            turn = r.turn;
            ring = r.ring;
            circuit = r.circuit;
            attains = tight_attains g m time a b D r.circuit.walk v;
          }

-- How far a ratio is from the largest that can be, for closed walks of n places at most.
pub left : ℕ → ℕ → ℕ → ℕ
left n a b = 8 * n * (8 * n) * (8 * n * 1000000) - 8 * n * (8 * n) * a / b

module _ {g : Net} {m time : ℕ → ℕ} (live : Live g m) (short : (p : ℕ) → p < g.places → time (g.src p) ≤ longest_time) (few : (p : ℕ) → p < g.places → m p ≤ most_tokens) where
  tour_some : {a b : ℕ} → Tour g m time a b → 1 ≤ b
  tour_some o = omega (arith, live o.turn o.places o.walk o.some, o.holds)

  -- A better ratio is nearer.
  nearer : {a b t n : ℕ} → Tour g m time a b → Tour g m time t n → a * n < b * t → left g.transitions t n < left g.transitions a b
  unfolding left
  nearer {a} {b} {t} {n} o p h =
      let q = 8 * g.transitions in
      let z : a * n < t * b = omega arith in
      let top : t ≤ q * 1000000 = omega (arith, tour_lasts 1000000 short few p) in
      omega (arith, ratio_step q a b t n (tour_some o) (tour_holds 1000000 short few o) (tour_some p) (tour_holds 1000000 short few p) z, ratio_bound q t n (q * 1000000) top)

-- The ring of an operation: what its three transitions take, and the tokens of its three places.
pub ring_tour :
    {n e i : ℕ} {from to marking times : List ℕ} → Weighted n e from to marking times → i < n
    → Tour (net_of (wires n e from to)) (at marking) (at times)
    (at times (3 * i + 1) + at times (3 * i + 2) + at times (3 * i + 3))
    (at marking (3 * i) + at marking (3 * i + 1) + at marking (3 * i + 2))
unfolding sum
ring_tour {i = i} {times = times} o h =
    let runs = row_runs o h in
    let r0 = runs.0 in
    let r1 = runs.1 in
    let r2 = runs.2 in
    record {
      turn = 3 * i + 1;
      places = (3 * i) ∷ (3 * i + 1) ∷ (3 * i + 2) ∷ [];
      walk = join (step r0) (join (step r1) (step r2));
      some = omega arith;
      few = omega arith;
      lasts = omega (arith, ap (at times) r0.leaves, ap (at times) r1.leaves, ap (at times) r2.leaves);
      holds = omega arith;
    }

module _ {g : Net} {m time : ℕ → ℕ} {a b : ℕ} {D : ℕ → ℕ} where
  improves_certified : {f : Option Rate} → Improves g m time a b D f → f ≡ None → Certifies g m time a b D
  improves_certified (proven c) e = c
  improves_certified (beaten o h) e = let z : ◌≡◌ {A = ℕ} 0 1 = cc in absurd (omega arith)

  pub improves_better : {f : Option Rate} {r : Rate} → Improves g m time a b D f → f ≡ Some r → Tour g m time r.time r.tokens × (a * r.tokens < b * r.time)
  improves_better (proven c) e = let z : ◌≡◌ {A = ℕ} 0 1 = cc in absurd (omega arith)
  improves_better {r = r} (beaten {r = s} o h) e = let same : s ≡ r = cc in rw (← same) (o, h)

module _ {n e : ℕ} {from to marking times : List ℕ} (o : Weighted n e from to marking times) {a b : ℕ} (x : Tour (net_of (wires n e from to)) (at marking) (at times) a b) where
  module _ (live : Live (net_of (wires n e from to)) (at marking)) {d : List ℕ} {r : Option Rate} (j : Improved (loaded n e from to marking times) a b d r) where
    -- Certified: the closed walk in hand has the largest ratio.
    pub largest_by : r ≡ None → LargestBy (loaded n e from to marking times) a b d
    largest_by z =
        let cert = improves_certified j.improves z in
        record { largest = attained (at d) cert x; certifies = cert; positive = tour_some live (weighted_short o) o.few x; small = tour_pair o x; low = j.low }

    -- Otherwise the next closed walk is nearer.
    pub nearer_of : {s : Rate} → r ≡ Some s → left (3 * n + 2) s.time s.tokens < left (3 * n + 2) a b
    nearer_of z = let y = improves_better j.improves z in nearer live (weighted_short o) o.few x y.0 y.1
