-- The marks of the nodes that are ends of edges, and what they say of a node.
use Prim.Native.Nat.{ℕ, ◌+◌, ◌<◌}
use mathlib.Core.Path.{◌≡◌, sym, subst}
use mathlib.Core.List.{List}
use native.Mathlib.Omega.{arith}
use native.Mathlib.Decide.{ℕ_discrete}
use lib.ListN.{length, set, replicate}
use lib.Seq.{get_or-set_same}
use Rattle.marked.specs.Net.{at}
use Rattle.net.specs.Rules.{Linked, Touched}
use Rattle.net.specs.Plan.{wires}
use Rattle.judge_links.specs.helpers.Ticks.{Bound, Ticks}
use Rattle.marked.proofs.Fresh.{zeros}
use Rattle.judge_links.proofs.Marks.{set_marked, set_sound}

touched_more : {k : ℕ} {end : ℕ → ℕ} {n : ℕ} → Touched k end n → Touched (k + 1) end n
touched_more t = record { edge = t.edge; inside = omega (arith, t.inside); there = t.there }

pub ticks_none : (ends : List ℕ) → Ticks 0 ends (replicate 42 0)
ticks_none ends = record { sound = λ n e. absurd (let z : ⊥ = omega (arith, zeros 42 n, e) in z); whole = λ n t. absurd (let z : ⊥ = omega (arith, t.inside) in z) }

-- One end more.
pub ticks_more : {k : ℕ} {ends seen : List ℕ} (x : ℕ) → x ≡ at ends k → x < length seen → Ticks k ends seen → Ticks (k + 1) ends (set seen x 1)
ticks_more {k} {ends} {seen} x p l h =
    record { sound = set_sound (Touched (k + 1) (at ends)) seen x (record { edge = k; inside = omega arith; there = sym p }) (λ n e. touched_more (h.sound n e)); whole = whole }
  where
    whole : (n : ℕ) → Touched (k + 1) (at ends) n → at (set seen x 1) n ≡ 1
    whole n t = go (ℕ_discrete t.edge k)
      where
        go : Dec (t.edge ≡ k) → at (set seen x 1) n ≡ 1
        go (yes e) =
            let q : x ≡ n = cc (p, e, t.there) in
            subst (λ (m : ℕ). at (set seen x 1) m ≡ 1) q (get_or-set_same seen x 1 0 l)
        go (no e) = set_marked seen x n (h.whole n (record { edge = t.edge; inside = omega (arith, t.inside, e); there = t.there }))

-- A node is linked just if the two marks at it say so.
module _ {n e : ℕ} {from to out into : List ℕ} (o : Ticks e from out) (i : Ticks e to into) where
  pub bound_linked : {x : ℕ} → Bound n x (at out x) (at into x) → Linked (wires n e from to) x
  bound_linked {x} b = record { out = λ l. o.sound x (b.leaves l); into = λ l. i.sound x (b.enters l) }

  pub linked_bound : {x : ℕ} → Linked (wires n e from to) x → Bound n x (at out x) (at into x)
  linked_bound {x} h = record { leaves = λ l. o.whole x (h.out l); enters = λ l. i.whole x (h.into l) }
