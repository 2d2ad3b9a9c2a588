-- A run as its loop goes: at the start, after an entry that fired, at one that is refused, and at the end.
use mathlib.Core.Path.{◌≡◌, ◌∙◌, ap, refl, subst, sym}
use mathlib.Core.List.{List, [], ◌∷◌}
use Prim.Native.Nat.{◌*◌, ◌+◌, ◌-◌, ◌<◌, suc, ℕ}
use native.Mathlib.Numerals.{add-one}
use native.Mathlib.Omega.{arith}
use lib.ListN.{drop, length}
use lib.Seq.{drop-cons, drop-length}
use Rattle.refusal.specs.declared.Refusal.{Refusal}
use Rattle.marked.specs.Net.{Net, at}
use Rattle.net.specs.Plan.{wires}
use Rattle.net.specs.Graph.{net_of}
use Rattle.firing.specs.Step.{Steps}
use Rattle.firing.specs.helpers.Few.{Few}
use Rattle.firing.proofs.Fews.{few_kept}
use Rattle.firing.proofs.Steps.{steps_firing, steps_long}
use Rattle.running_entry.specs.declared.RunRecord.{RunRecord}
use Rattle.running.specs.Run.{Runs}
use Rattle.running_entry.specs.Entry.{EntryTaken, advanced}
use Rattle.running.specs.Run.Runs.{ends, goes, stops}
use Rattle.std.specs.Prelude.{Err, Ok}
use Rattle.refusal.specs.Asking.{Verdict}

-- The count of a run, otherwise written.
counts : {g : Net} {m ts z : List ℕ} {j k : ℕ} {x : Verdict} → j ≡ k → Runs g m ts j x z → Runs g m ts k x z
counts {g} {m} {ts} {z} {x} e r = subst (λ (i : ℕ). Runs g m ts i x z) e r

-- The record stands after the first i entries, which have fired, and what is left, run from here, gives what the whole run gives.
pub record Going (n e : ℕ) (from to m₀ list : List ℕ) (i : ℕ) (rec : RunRecord) (m : List ℕ) : Type 0 where
  pub places : rec.places ≡ 3 * n + 2 * e
  pub next : rec.next ≡ i
  pub counted : rec.fired ≡ rec.next
  pub long : length m ≡ length m₀
  pub few : Few n e from to m
  pub left : (k : ℕ) (x : Verdict) (z : List ℕ) → Runs (net_of (wires n e from to)) m (drop rec.next list) k x z
      → Runs (net_of (wires n e from to)) m₀ list (rec.fired + k) x z

-- At the start no entry has been taken.
pub going_start : {n e : ℕ} {from to m list : List ℕ} → Few n e from to m → Going n e from to m list 0 (record { places = 3 * n + 2 * e; next = 0; fired = 0 }) m
going_start few = record { places = refl; next = refl; counted = refl; long = refl; few = few; left = λ k x z r. counts (omega arith) r }

module _ {n e : ℕ} {from to m₀ list : List ℕ} {i : ℕ} {rec : RunRecord} {m : List ℕ} (g : Going n e from to m₀ list i rec m) where
  abbrev net : Net
  net = net_of (wires n e from to)

  pub going_ends : i ≡ length list → Runs (net_of (wires n e from to)) m₀ list (length list) (Ok tt) m
  going_ends h =
      let d : [] ≡ drop rec.next list = sym (ap (λ (j : ℕ). drop j list) (g.next ∙ h) ∙ drop-length list) in
      counts (omega (arith, g.counted, g.next)) (g.left 0 (Ok tt) m (subst (λ (ts : List ℕ). Runs net m ts 0 (Ok tt) m) d ends))

  module _ {a : Verdict} {after : RunRecord} {z : List ℕ} (t : EntryTaken n from to rec m list a after z) where
    -- The list from this entry on.
    here : at list rec.next ∷ drop (suc rec.next) list ≡ drop rec.next list
    here = sym (drop-cons list rec.next 0 t.entry.inside)

    step : Steps net m (at list rec.next) a z
    step =
        let same : t.edges ≡ e = omega (arith, t.places, g.places) in
        subst (λ (x : ℕ). Steps (net_of (wires n x from to)) m (at list rec.next) a z) same t.entry.steps

    pub going_long : length z ≡ length m₀
    going_long = steps_long step ∙ g.long

    module _ (f : a ≡ Ok tt) where
      going_next : after ≡ advanced rec (Ok tt)
      going_next = t.entry.moves ∙ ap (advanced rec) f

      -- Less of the list is left.
      pub going_less : length list - after.next < length list - rec.next
      going_less = omega (arith, t.entry.inside, ap (λ (r : RunRecord). r.next) going_next)

      one : Steps net m (at list rec.next) (Ok tt) z
      one = subst (λ (x : Verdict). Steps net m (at list rec.next) x z) f step

      left_on : (k : ℕ) (x : Verdict) (y : List ℕ) → Runs net z (drop (rec.next + 1) list) k x y → Runs net m₀ list (rec.fired + 1 + k) x y
      left_on k x y r =
          let next : drop (rec.next + 1) list ≡ drop (suc rec.next) list = ap (λ (j : ℕ). drop j list) (add-one rec.next) in
          let rest : Runs net z (drop (suc rec.next) list) k x y = subst (λ (ts : List ℕ). Runs net z ts k x y) next r in
          counts (omega arith) (g.left (suc k) x y (subst (λ (ts : List ℕ). Runs net m ts (suc k) x y) here (goes one rest)))

      pub going_on : Going n e from to m₀ list (i + 1) after z
      going_on =
          subst (λ (r : RunRecord). Going n e from to m₀ list (i + 1) r z) (sym going_next)
          (record {
            places = g.places;
            next = ap (λ (j : ℕ). j + 1) g.next;
            counted = ap (λ (j : ℕ). j + 1) g.counted;
            long = going_long;
            few = few_kept g.few (steps_firing step f);
            left = left_on;
          })

    pub going_stops : {r : Refusal} → a ≡ Err r → Runs (net_of (wires n e from to)) m₀ list after.fired (Err r) z
    going_stops {r} f =
        let last : Steps net m (at list rec.next) (Err r) z = subst (λ (x : Verdict). Steps net m (at list rec.next) x z) f step in
        let kept : rec.fired ≡ after.fired = ap (λ (k : RunRecord). k.fired) (sym (t.entry.moves ∙ ap (advanced rec) f)) in
        counts (omega arith) (g.left 0 (Err r) z (subst (λ (ts : List ℕ). Runs net m ts 0 (Err r) z) here (stops last)))
