-- A circuit can be entered at any of its places, so also at the lowest.
use mathlib.Core.Path.{◌≡◌, ap, refl, subst}
use mathlib.Core.Logic.{◌⊎◌, inl, inr}
use mathlib.Core.List.{List, [], ◌++◌, ◌∷◌}
use Prim.Native.Nat.{◌<◌, ◌≤◌, ℕ}
use native.Mathlib.Omega.{arith}
use lib.ListN.{length, length-append}
use Rattle.marked.specs.Lists.{All, Distinct}
use Rattle.marked.specs.Sums.{sum}
use Rattle.marked.specs.Net.{Net}
use Rattle.marked.specs.Circuits.{Circuit, froms}
use Rattle.marked.specs.Order.{LowestFirst}
use Rattle.marked.proofs.Entries.{all_append, all_left, all_map, all_right, distinct_swap}
use Rattle.marked.proofs.Pigeonhole.{sum_append}
use Rattle.marked.proofs.Walks.{froms_append, join, part}
use Rattle.marked.proofs.Find.{above}

-- A circuit entered at another of its places.
pub rotate : (g : Net) {a : ℕ} (xs ys : List ℕ) → Circuit g a (xs ++ ys) → (c : ℕ) × Circuit g c (ys ++ xs)
rotate g xs ys c =
    let t = part xs ys c.walk in
    let d : Distinct (froms g xs ++ froms g ys) = rw (froms_append g xs ys) at c.simple in
    let e : Distinct (froms g (ys ++ xs)) = rw (froms_append g ys xs) (distinct_swap (froms g xs) (froms g ys) d) in
    let s : 1 ≤ length (xs ++ ys) = c.some in
    let l : 1 ≤ length (ys ++ xs) = simp length-append (omega (arith, simp length-append at s)) in
    (t.0, record { walk = join t.2 t.1; some = l; simple = e })

-- A lowest entry of a list, with what stands before and after it.
pub record Lowest (ps : List ℕ) : Type 0 where
  pub before : List ℕ
  pub entry : ℕ
  pub after : List ℕ
  pub parts : ps ≡ before ++ (entry ∷ after)
  pub low : All (λ (y : ℕ). entry ≤ y) ps

-- Each list with an entry has a lowest one.
pub lowest : (p : ℕ) (ps : List ℕ) → Lowest (p ∷ ps)
lowest p [] = record { before = []; entry = p; after = []; parts = refl; low = (omega arith, tt) }
lowest p (q ∷ ps) = at (lowest q ps)
  where
    at : Lowest (q ∷ ps) → Lowest (p ∷ q ∷ ps)
    at r = pick (above r.entry p)
      where
        pick : (r.entry < p) ⊎ (p ≤ r.entry) → Lowest (p ∷ q ∷ ps)
        pick (inl h) = record { before = p ∷ r.before; entry = r.entry; after = r.after; parts = ap {B = List ℕ} (λ l. p ∷ l) r.parts; low = (omega arith, r.low) }
        pick (inr h) = record { before = []; entry = p; after = q ∷ ps; parts = refl; low = (omega arith, all_map (λ y k. omega arith) (q ∷ ps) r.low) }

-- A circuit with the places of ps, so with the same sums, written lowest place first.
pub record Entered (g : Net) (ps : List ℕ) : Type 0 where
  pub turn : ℕ
  pub first : ℕ
  pub rest : List ℕ
  pub circuit : Circuit g turn (first ∷ rest)
  pub low : LowestFirst (first ∷ rest)
  pub same : (f : ℕ → ℕ) → sum f (first ∷ rest) ≡ sum f ps

-- Each circuit can be written so.
pub enter_lowest : (g : Net) {a : ℕ} {ps : List ℕ} → Circuit g a ps → Entered g ps
enter_lowest g {ps = []} c = let h : 1 ≤ 0 = c.some in absurd (omega arith)
enter_lowest g {a} {ps = p ∷ ps} c =
    let r = lowest p ps in
    let c2 : Circuit g a (r.before ++ (r.entry ∷ r.after)) = rw r.parts at c in
    let t = rotate g r.before (r.entry ∷ r.after) c2 in
    let low2 : All (λ (y : ℕ). r.entry ≤ y) (r.before ++ (r.entry ∷ r.after)) = subst (λ (l : List ℕ). All (λ (y : ℕ). r.entry ≤ y) l) r.parts r.low in
    let behind = all_right (λ (y : ℕ). r.entry ≤ y) r.before (r.entry ∷ r.after) low2 in
    record {
      turn = t.0;
      first = r.entry;
      rest = r.after ++ r.before;
      circuit = t.1;
      low = all_append (λ (y : ℕ). r.entry ≤ y) r.after r.before behind.1 (all_left (λ (y : ℕ). r.entry ≤ y) r.before (r.entry ∷ r.after) low2);
      same = λ f. omega (arith, sum_append f (r.entry ∷ r.after) r.before, sum_append f r.before (r.entry ∷ r.after), ap (sum f) r.parts);
    }
