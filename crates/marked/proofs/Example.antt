-- The worked graph P1 written out, as a check that the definitions compute: its largest time per token is 5 / 1, and the wait for its sink is 8.
use mathlib.Core.Path.{refl}
use mathlib.Core.List.{List, [], ◌∷◌}
use Prim.Native.Nat.{ℕ}
use native.Mathlib.Decide.{ℕ_discrete}
use lib.ListN.{get_or}
use Rattle.marked.specs.Sums.{sum, upto}
use Rattle.marked.specs.Net.{Net, at}
use Rattle.marked.specs.Circuits.{Live}
use Rattle.marked.specs.Bounds.{Largest}
use Rattle.marked.specs.Wait.{WaitSum, Demand3, others}
use Rattle.marked.proofs.Alive.{ranked_live}
use Rattle.marked.proofs.Certificate.{certified}
use Rattle.marked.proofs.Least.{settled_distances}
use Rattle.marked.proofs.Decide.{passed}
use Rattle.marked.proofs.Check.{certifies?, circuit?, proper?, ranks?, settled?, ways?}
use Rattle.marked.proofs.Wait.{wait_demand}

-- Source 0, read 1, process 2 (it takes 5), write 3, sink 4; the operation's three places, then full and empty of the two edges.
abbrev p1 : Net
p1 = record { transitions = 5; places = 7; src = at (1 ∷ 2 ∷ 3 ∷ 0 ∷ 1 ∷ 3 ∷ 4 ∷ []); dst = at (2 ∷ 3 ∷ 1 ∷ 1 ∷ 0 ∷ 4 ∷ 3 ∷ []) }

-- What each transition takes.
abbrev takes : ℕ → ℕ
takes = at (0 ∷ 0 ∷ 5 ∷ 0 ∷ 0 ∷ [])

-- The start.
abbrev start : ℕ → ℕ
start = at (0 ∷ 0 ∷ 1 ∷ 0 ∷ 1 ∷ 0 ∷ 1 ∷ [])

-- Each transition's number is a rank.
p1_live : Live p1 start
p1_live = ranked_live p1 start (λ (u : ℕ). u) (passed (ranks? p1 start (λ (u : ℕ). u)) tt)

-- P1's TBO, with its certificate and its circuit.
pub p1_largest : Largest p1 start takes 5 1
unfolding sum
p1_largest =
    let D : ℕ → ℕ = at (0 ∷ 0 ∷ 0 ∷ 5 ∷ 5 ∷ []) in
    record {
      bound = λ c ps y. certified p1 start takes 5 1 D (passed (certifies? p1 start takes 5 1 D) tt) y.walk;
      turn = 1;
      ring = 0 ∷ 1 ∷ 2 ∷ [];
      circuit = passed (circuit? p1 1 (0 ∷ 1 ∷ 2 ∷ [])) tt;
      attains = refl;
    }

-- The fewest tokens from the sink, and walks that have them.
abbrev few : ℕ → ℕ
few = at (3 ∷ 2 ∷ 2 ∷ 1 ∷ 0 ∷ [])

abbrev ways : ℕ → List ℕ
ways u = get_or ((6 ∷ 2 ∷ 4 ∷ []) ∷ (6 ∷ 2 ∷ []) ∷ (6 ∷ 2 ∷ 0 ∷ []) ∷ (6 ∷ []) ∷ [] ∷ []) u []

-- P1's wait for the sink.
pub p1_wait : Demand3 p1 start 4 8
unfolding sum upto others ℕ_discrete
p1_wait =
    let s : WaitSum p1 start 4 8 = record { fewest = few; each = settled_distances ways (passed (settled? p1 start few) tt) refl (passed (ways? p1 start few 4 ways) tt); adds = refl } in
    wait_demand (passed (proper? p1) tt) p1_live s
