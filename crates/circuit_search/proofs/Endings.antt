-- The start of the search on its arrays, what is left to try, and what it answers.
use mathlib.Core.Path.{◌≡◌, ap, refl, sym, ◌∙◌, subst}
use mathlib.Core.Logic.{◌≢◌}
use mathlib.Core.Bool.{Bool, true, false}
use mathlib.Core.List.{List, []}
use Prim.Native.Nat.{◌*◌, ◌+◌, ◌-◌, ◌<◌, ◌≤◌, suc, zero, ℕ}
use native.Mathlib.Omega.{arith}
use native.Mathlib.Decide.{ℕ_discrete}
use lib.ListN.{get_or, length, length-set, replicate, set}
use lib.Seq.{get_or-set_other, get_or-set_same}
use Rattle.std.specs.Prelude.{None}
use Rattle.marked.specs.Sums.{upto}
use Rattle.marked.specs.Net.{at}
use Rattle.marked.proofs.Tallies.{upto_most}
use Rattle.circuit_tight.specs.helpers.Lists.{Headed, Threaded, Listed, drawn}
use Rattle.circuit_search.specs.helpers.Ways.{Cut, FirstNoted}
use Rattle.circuit_search.specs.helpers.Turns.{Lowest, LowestBack, MoveEnds, Sought, Tried, Turned, Under, mark, marks}
use Rattle.circuit_search.specs.helpers.Turns.MoveEnds.{gone, got, moved}
use Rattle.circuit_search.specs.declared.Move.{Move}
use Rattle.circuit_search.specs.declared.Move.TheVariants.{At, GivenUp, Reached}
use Rattle.circuit_search.proofs.Keeping.{begin}

-- At the start none is met.
unmet : (n v : ℕ) → get_or (replicate n false) v false ≡ false
unmet zero v = refl
unmet (suc n) zero = refl
unmet (suc n) (suc v) = unmet n v

-- The start of the search.
pub under_start :
    {nt np : ℕ} {head next src dst via : List ℕ} {root goal : ℕ} → Threaded nt np next src dst → Headed nt np head src dst → root < nt → goal ≢ root → length via ≡ 122 →
    Under nt np src dst root goal (set (replicate 122 false) root true) via head root
under_start {nt} {np} {head} {next} {src} {dst} {via} {root} {goal} k o h f l = record {
  ts = [];
  search = begin {M = marks (set (replicate 122 false) root true)} (λ e. omega (arith, one)) (λ v d. ap mark (get_or-set_other (replicate 122 false) root v true false d ∙ unmet 122 v)) k.leaves o.heads o.low f;
  start = h;
  wide = length-set (replicate 122 false) root true;
  deep = l;
  long = o.long;
  low = λ v. omega (arith, o.low v);
}
  where
    one : ◌≡◌ {A = ℕ} (marks (set (replicate 122 false) root true) root) 1
    one = ap mark (get_or-set_same (replicate 122 false) root true false (omega (arith, k.few)))

-- What is left to try.
pub left : ℕ → List ℕ → ℕ
left np cur = 122 * (np + 1) - upto (at cur) 122

module _ {nt np : ℕ} {src dst : List ℕ} {root goal : ℕ} {seen : List Bool} {via cur : List ℕ} where
  pub left_less : {before : List ℕ} {m : Move} {y : ℕ} → Turned nt np src dst root goal before seen via cur m → Under nt np src dst root goal seen via cur y → left np cur < left np before
  unfolding left
  left_less t u = omega (arith, t.further, upto_most (at cur) (np + 1) 122 (λ v l. u.low v))

  pub outcome_at : {m : Move} {y : ℕ} → MoveEnds nt np src dst root goal seen via cur m → m ≡ At y → Under nt np src dst root goal seen via cur y
  outcome_at {y = y} (moved {y = z} h) e = let d : z ≡ y = cc in rw (← d) h
  outcome_at (got n l) e = cc
  outcome_at (gone n l) e = cc

  pub outcome_got : {m : Move} → MoveEnds nt np src dst root goal seen via cur m → m ≡ Reached → FirstNoted (drawn nt np src dst) (Listed dst) root goal (at via) × (length via ≡ 122)
  outcome_got (moved h) e = cc
  outcome_got (got n l) e = (n, l)
  outcome_got (gone n l) e = cc

  pub outcome_gone : {m : Move} → MoveEnds nt np src dst root goal seen via cur m → m ≡ GivenUp → Cut (drawn nt np src dst) (Listed dst) root goal × (length via ≡ 122)
  outcome_gone (moved h) e = cc
  outcome_gone (got n l) e = cc
  outcome_gone (gone n l) e = (n, l)

module _ {nt np : ℕ} {src dst via : List ℕ} {p root goal : ℕ} (er : root ≡ at dst p) (eg : goal ≡ at src p) where
  pub sought_yes : FirstNoted (drawn nt np src dst) (Listed dst) root goal (at via) × (length via ≡ 122) → Sought nt np src dst p via true
  sought_yes n = record { long = n.1; yes = λ z. rw (← er, ← eg) n.0; no = λ z. cc }

  pub sought_no : Cut (drawn nt np src dst) (Listed dst) root goal × (length via ≡ 122) → Sought nt np src dst p via false
  sought_no n = record { long = n.1; yes = λ z. cc; no = λ z. rw (← er, ← eg) n.0 }

-- A place that is listed has the way that the search finds, and one that is not has none.
module _ {nt np : ℕ} {src dst via : List ℕ} {p : ℕ} where
  pub tried_yes : {r : Bool} → Listed dst p → Sought nt np src dst p via r → Tried nt np src dst p via r
  tried_yes l s = record { long = s.long; fits = λ z. l; yes = s.yes; no = λ z i. s.no z }

  pub tried_no : at dst p ≡ 122 → length via ≡ 122 → Tried nt np src dst p via false
  tried_no e l = record { long = l; fits = λ z. cc; yes = λ z. cc; no = λ z i. absurd (i e) }

-- No listed place below p has a way back.
pub record Missed (nt np : ℕ) (src dst : List ℕ) (p : ℕ) (via : List ℕ) : Type 0 where
  pub most : p ≤ np
  pub long : length via ≡ 122
  pub none : (q : ℕ) → q < p → Listed dst q → Cut (drawn nt np src dst) (Listed dst) (at dst q) (at src q)

module _ {nt np : ℕ} {src dst : List ℕ} where
  -- Below 0 there is no place.
  pub missed_start : {via : List ℕ} → length via ≡ 122 → Missed nt np src dst 0 via
  missed_start l = record { most = omega arith; long = l; none = λ q h. absurd (omega arith) }

  module _ {p : ℕ} {via : List ℕ} (m : Missed nt np src dst p via) where
    -- One place more has none,
    pub missed_on : {w : List ℕ} {r : Bool} → p < np → Tried nt np src dst p w r → r ≡ false → Missed nt np src dst (p + 1) w
    missed_on h t e = record {
      most = omega arith;
      long = t.long;
      none = λ q i. elim (ℕ_discrete q p) [
        | yes z ↦ subst (λ (x : ℕ). Listed dst x → Cut (drawn nt np src dst) (Listed dst) (at dst x) (at src x)) (sym z) (t.no e)
        | no z ↦ m.none q (omega arith)
      ];
    }

    -- or it has one, and is the lowest;
    pub lowest_yes : {w : List ℕ} {r : Bool} → p < np → Tried nt np src dst p w r → r ≡ true → LowestBack nt np src dst w p
    lowest_yes h t e = record { inside = h; below = m.none; listed = t.fits e; noted = t.yes e }

    -- past the last place, none has.
    pub lowest_none : (p < np → ⊥) → Lowest nt np src dst via None
    lowest_none f q h = m.none q (omega arith)
