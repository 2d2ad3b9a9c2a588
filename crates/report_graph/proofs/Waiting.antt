-- The waits, one entry a turn.
use mathlib.Core.Path.{◌≡◌, subst, sym}
use mathlib.Core.List.{List}
use Prim.Native.Nat.{◌*◌, ◌+◌, ◌<◌, ℕ}
use native.Mathlib.Omega.{arith}
use borrow.Author.Count.{below_more}
use lib.ListN.{length, set}
use lib.Seq.{get_or-set_other, get_or-set_same}
use Rattle.marked.specs.Net.{at}
use Rattle.marked.specs.Wait.{WaitSum}
use Rattle.net.specs.Plan.{wires}
use Rattle.net.specs.Graph.{net_of}
use Rattle.report_graph.specs.helpers.Waited.{Waited}

-- The first k entries are the waits of their transitions.
pub record Summing (n e : ℕ) (from to marking : List ℕ) (k : ℕ) (waits : List ℕ) : Type 0 where
  pub sums : (t : ℕ) → t < k → WaitSum (net_of (wires n e from to)) (at marking) t (at waits t)

module _ {n e : ℕ} {from to marking : List ℕ} where
  pub summing_none : (waits : List ℕ) → Summing n e from to marking 0 waits
  summing_none waits = record { sums = λ t l. absurd (omega arith) }

  -- One wait more.
  pub summing_more : {k w : ℕ} (waits : List ℕ) → k < length waits → Summing n e from to marking k waits → WaitSum (net_of (wires n e from to)) (at marking) k w
      → Summing n e from to marking (k + 1) (set waits k w)
  summing_more {k} {w} waits h s x = record {
    sums = below_more (λ t. WaitSum (net_of (wires n e from to)) (at marking) t (at (set waits k w) t)) k
        (λ t l. subst (λ (v : ℕ). WaitSum (net_of (wires n e from to)) (at marking) t v) (sym (get_or-set_other waits k t w 0 (λ e. omega arith))) (s.sums t l))
        (subst (λ (v : ℕ). WaitSum (net_of (wires n e from to)) (at marking) k v) (sym (get_or-set_same waits k w 0 h)) x);
  }

  -- All of them.
  pub summing_waited : {k : ℕ} {before after : List ℕ} → k ≡ 3 * n + 2 → Summing n e from to marking k after → length after ≡ length before
      → Waited n e from to marking before after
  summing_waited j s long = record { each = λ t l. s.sums t (omega arith); long = long }
