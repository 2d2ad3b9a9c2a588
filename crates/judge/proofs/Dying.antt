-- From the computational graph's dead transitions to row 9: a circuit without a token breaks the rule, and where none is, it is kept.
use Prim.Native.Nat.{ℕ, ◌+◌, ◌*◌, ◌≤◌, ◌<◌}
use mathlib.Core.Path.{◌≡◌}
use mathlib.Core.List.{List, []}
use native.Mathlib.Omega.{arith}
use native.Mathlib.Decide.{ℕ_discrete}
use Rattle.marked.specs.Net.{at, tokens}
use Rattle.marked.specs.Circuits.{Circuit}
use Rattle.marked.proofs.Walks.{tokens_same}
use Rattle.net.specs.Ends.{start_at}
use Rattle.net.specs.Graph.{net_of, start_of}
use Rattle.dead.specs.Dead.{Dies, FirstDead, Lives, found, none}
use Rattle.net.specs.Rules.{Alive, row9}
use Rattle.refusal.specs.helpers.Answers.{Finds}
use Rattle.net.specs.Plan.{Plan, rows}
use Rattle.std.specs.Prelude.{Option}

-- The marking is the start.
module _ (n e : ℕ) (from to mark marking : List ℕ) (start : (p : ℕ) → p < 3 * n + 2 * e → at marking p ≡ start_at n (at mark) p) where
  abbrev plan : Plan
  plan = rows n e [] from to mark []

  same : {t : ℕ} {ring : List ℕ} → Circuit (net_of plan) t ring → tokens (at marking) ring ≡ tokens (start_of plan) ring
  same c = tokens_same start c.walk

  dies_not_alive : (t : ℕ) → Dies n e from to marking t → Alive plan t → ⊥
  dies_not_alive t d a = omega (arith, a d.ring d.circuit, same d.circuit, d.empty)

  lives_alive : (t : ℕ) → Lives n e from to marking t → Alive plan t
  lives_alive t l ring c = go (ℕ_discrete (tokens (at marking) ring) 0)
    where
      go : Dec (tokens (at marking) ring ≡ 0) → 1 ≤ tokens (start_of plan) ring
      go (yes z) = absurd (l (record { ring = ring; circuit = c; empty = z }))
      go (no z) = omega (arith, same c, z)

  pub finds_first : {r : Option ℕ} → FirstDead n e from to marking r → Finds (row9 plan) r
  finds_first (found {t} h) =
      record { place = h.within; broken = dies_not_alive t h.dies; lower = λ s l p. lives_alive s (h.lowest s l) }
  finds_first (none h) = λ t p. lives_alive t (h.each t)
