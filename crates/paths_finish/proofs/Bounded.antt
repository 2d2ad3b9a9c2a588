-- How large an entry can get: no more than all operations take together, so at most 40 times 1,000,000.
use mathlib.Core.Path.{◌≡◌, ap, refl}
use mathlib.Core.List.{List, [], ◌∷◌}
use Prim.Native.Nat.{◌*◌, ◌+◌, ◌-◌, ◌≤◌, suc, zero, ℕ}
use native.Mathlib.Decide.{dec_lt}
use native.Mathlib.Numerals.{add-one}
use native.Mathlib.Omega.{arith}
use lib.ListN.{get_or-eq_default, length, take}
use Rattle.std.specs.List.{sum_by}
use Rattle.std.proofs.lemmas.List.{take_all}
use Rattle.std.proofs.lemmas.List.Sums.{sum_by_more}
use Rattle.marked.specs.Sums.{sum, total, upto}
use Rattle.marked.specs.Net.{at}
use Rattle.marked.proofs.Tallies.{upto_most}
use Rattle.net.specs.Plan.{Plan, rows, time_at}
use Rattle.paths_finish.specs.Longest.{effort}
use Rattle.paths_finish.specs.helpers.Finishing.{Backed, PathTo}
use Rattle.paths_finish.proofs.Distinct.{path_effort}
use Rattle.paths_finish.proofs.Passing.{Passing, good_passing}

-- The times of the operations are the first entries.
pub times_sum : (times : List ℕ) (n : ℕ) → sum_by (λ (x : ℕ). x) (take n times) ≡ upto (λ (i : ℕ). time_at times (i + 1)) n
unfolding upto
times_sum times zero = refl
times_sum times (suc n) =
    let S : List ℕ → ℕ = λ xs. sum_by (λ (x : ℕ). x) xs in
    let same : n + 1 - 1 ≡ n = omega arith in
    rw (← add-one n) (elim (dec_lt n (length times)) [
      | yes l ↦ omega (arith, sum_by_more (λ (x : ℕ). x) times n 0 l, times_sum times n, ap (at times) same)
      | no l ↦ omega (
        arith,
        ap S (take_all (n + 1) times (omega arith)),
        ap S (take_all n times (omega arith)),
        get_or-eq_default times 0 {n = n} (omega arith),
        times_sum times n,
        ap (at times) same,
      )
    ])

-- One operation more.
pub times_more : (times : List ℕ) (i : ℕ) → upto (λ (j : ℕ). time_at times (j + 1)) (i + 1) ≡ upto (λ (j : ℕ). time_at times (j + 1)) i + at times i
unfolding upto
times_more times i = let same : i + 1 - 1 ≡ i = omega arith in rw add-one (omega (arith, ap (at times) same))

pub times_most : (f : ℕ → ℕ) (m n : ℕ) → ((i : ℕ) → 1 ≤ i → i ≤ n → f i ≤ m) → upto (λ (i : ℕ). f (i + 1)) n ≤ n * m
times_most f m n h = upto_most (λ (i : ℕ). f (i + 1)) m n (λ i l. h (i + 1) (omega arith) (omega arith))

total_most : (m : ℕ) (d : List ℕ) → ((v : ℕ) → at d v ≤ m) → total d ≤ length d * m
unfolding sum
total_most m [] h = omega arith
total_most m (x ∷ d) h = omega (arith, total_most m d (λ v. h (suc v)), h zero)

pub effort_most : {g : Plan} → Passing g → effort g ≤ 40000000
effort_most {g} ok = omega (arith, times_most g.time 1000000 g.operations ok.timely, ok.operations)

pub chain_most : {g : Plan} {v x : ℕ} → Passing g → PathTo g v x → x ≤ effort g
chain_most ok c = omega (arith, path_effort ok c.path, c.has)

pub entries_most : {n e : ℕ} {times from to mark buffers d : List ℕ} → Backed n e times from to mark buffers d → total d ≤ 42 * effort (rows n e times from to mark buffers)
entries_most {n} {e} {times} {from} {to} {mark} {buffers} {d} l =
    omega (arith, total_most _ d (λ v. chain_most (good_passing l.good) (l.chains v)), ap (λ (k : ℕ). k * effort (rows n e times from to mark buffers)) l.long)
