-- The three sentences of the wait leave no freedom: one number meets them, and it is found at every marking that a live one reaches.
use mathlib.Core.Path.{◌≡◌, refl, sym}
use mathlib.Core.List.{List, [], ◌++◌, ◌∷◌}
use Prim.Native.Nat.{◌*◌, ◌<◌, ◌≤◌, suc, zero, ℕ}
use native.Mathlib.Decide.{ℕ_discrete}
use native.Mathlib.Nat.{mul-le-mul_right}
use native.Mathlib.Omega.{arith}
use lib.ListN.{length, length-append}
use Rattle.marked.specs.Net.{Net, Proper}
use Rattle.marked.specs.Circuits.{Live, froms}
use Rattle.marked.specs.Distance.{Least}
use Rattle.marked.specs.Firing.{Fires, Reaches, Same, count, still, then}
use Rattle.marked.specs.Wait.{WaitSum, Demand3, others, unless}
use Rattle.marked.proofs.Hits.{hit_other}
use Rattle.marked.proofs.Tallies.{count_append, upto_most, upto_same}
use Rattle.marked.proofs.Least.{least_same, least_unique}
use Rattle.marked.proofs.Alive.{live_fires}
use Rattle.marked.proofs.Fired.{after, fire_after, fires_join}
use Rattle.marked.proofs.Pigeonhole.{pigeonhole}
use Rattle.marked.proofs.Shorten.{shorten}
use Rattle.marked.proofs.Sizes.{walk_most}
use Rattle.marked.proofs.Walks.{froms_in, length_froms}
use Rattle.marked.proofs.Wait.{others_all, wait_demand}

-- The three sentences of the wait at every marking that a live one reaches.
pub wait_reached : {g : Net} {m n : ℕ → ℕ} {t w : ℕ} → Proper g → Live g m → Reaches g m n → WaitSum g n t w → Demand3 g n t w
wait_reached ok live r s = wait_demand ok ((live_fires r.fires).0 live) s

-- There is one such sum.
pub wait_sum_unique : {g : Net} {m : ℕ → ℕ} {t w v : ℕ} → WaitSum g m t w → WaitSum g m t v → w ≡ v
unfolding others
wait_sum_unique {g} {t} x y =
    omega (
      arith,
      x.adds,
      y.adds,
      upto_same (λ (u : ℕ). unless (ℕ_discrete u t) (x.fewest u)) (λ (u : ℕ). unless (ℕ_discrete u t) (y.fewest u)) g.transitions
          (λ u l. rw (least_unique (x.each u l) (y.each u l))),
    )

-- Markings that agree on the places have the same sum.
pub wait_sum_same : {g : Net} {m k : ℕ → ℕ} {t w : ℕ} → Same g m k → WaitSum g m t w → WaitSum g k t w
wait_sum_same s x = record { fewest = x.fewest; each = λ u l. least_same s (x.each u l); adds = x.adds }

-- Firings without t, k of them.
pub record Run (g : Net) (m : ℕ → ℕ) (t k : ℕ) : Type 0 where
  pub end : ℕ → ℕ
  pub list : List ℕ
  pub fires : Fires g m list end
  pub none : count t list ≡ 0
  pub size : length list ≡ k

-- Every number of firings up to the wait is made by some list.
pub run : {g : Net} {m : ℕ → ℕ} {t w : ℕ} → Demand3 g m t w → (k : ℕ) → k ≤ w → Run g m t k
unfolding count
run {m} x zero h = record { end = m; list = []; fires = still (λ p l. refl); none = refl; size = refl }
run {g} {t} x (suc k) h =
    let r = run x k (omega arith) in
    let o = x.goes r.end r.list r.fires r.none (omega (arith, r.size)) in
    let u = o.next in
    record {
      end = after g r.end u;
      list = r.list ++ (u ∷ []);
      fires = fires_join r.fires (then (fire_after g r.end u o.within o.enabled) (still (λ p l. refl)));
      none = omega (arith, count_append t r.list (u ∷ []), r.none, hit_other t u (λ e. o.other (sym e)));
      size = omega (arith, length-append r.list (u ∷ []), r.size);
    }

no_longer : {g : Net} {m : ℕ → ℕ} {t w v : ℕ} → Demand3 g m t w → Demand3 g m t v → w ≤ v
no_longer {w} x y = let r = run x w (omega arith) in omega (arith, y.most r.end r.list r.fires r.none, r.size)

-- Two numbers that meet the three sentences are the same.
pub waits_unique : {g : Net} {m : ℕ → ℕ} {t w v : ℕ} → Demand3 g m t w → Demand3 g m t v → w ≡ v
waits_unique x y = omega (arith, no_longer x y, no_longer y x)

-- How long a wait can be, where a net has at most n transitions and each place at most k tokens.
module _ {g : Net} (ok : Proper g) {m : ℕ → ℕ} (n k : ℕ) (few : g.transitions ≤ n) (low : (p : ℕ) → p < g.places → m p ≤ k) where
  -- The fewest tokens stand on a walk that comes to no transition twice,
  least_most : {t u d : ℕ} → Least g m t u d → d ≤ n * k
  least_most l =
      let s = shorten g l.walk in
      let short : length s.way ≤ n = omega (arith, pigeonhole g.transitions (froms g s.way) (froms_in ok s.walk) s.simple.1, length_froms g s.way) in
      omega (arith, l.least s.way s.walk, walk_most m k low s.walk, mul-le-mul_right k short)

  -- so the sum of them is no more than this.
  pub wait_most : {t w : ℕ} → WaitSum g m t w → w ≤ n * (n * k)
  wait_most x =
      omega (arith, x.adds, others_all x.each, upto_most x.fewest (n * k) g.transitions (λ u l. least_most (x.each u l)), mul-le-mul_right (n * k) few)
