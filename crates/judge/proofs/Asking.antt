-- One row asked by a search: its refusal, or the row is kept.
use mathlib.Core.Path.{◌≡◌, subst}
use mathlib.Core.List.{List, [], ◌∷◌}
use Prim.Native.Nat.{ℕ}
use Rattle.std.specs.Prelude.{Err, None, Ok, Option, Some, ⊤}
use Rattle.refusal.specs.Asking.{Ask, Given, Judged, Kept, Verdict, sound}
use Rattle.refusal.specs.Numbers.{number_of}
use Rattle.refusal.specs.declared.Reason.{Reason}
use Rattle.refusal.specs.declared.Refusal.{Refusal}
use Rattle.refusal.specs.helpers.Answers.{Finds}
use Rattle.refusal.proofs.Asked.{given_here, judged_refused, sound_next, sound_none}
use Rattle.judge.specs.helpers.Told.{told}

-- What was told of it is no refusal,
pub told_kept : (a : Ask) (k : Reason) (f : Option ℕ) {u : ⊤} → Finds a f → let v : Verdict = Ok u in v ≡ told k f → Kept a
told_kept a k None h e = h
told_kept a k (Some x) h e = cc

-- or the refusal of the row,
pub told_given : {a : Ask} {rows : List Ask} (k : Reason) (f : Option ℕ) {r : Refusal} → a.number ≡ number_of k → Finds a f → let v : Verdict = Err r in v ≡ told k f
    → Given (a ∷ rows) r
told_given k None n h e = cc
told_given {a} {rows} k (Some x) {r} n h e =
    let s : Refusal = record { reason = k; place = x } in
    let same : s ≡ r = cc in
    subst (λ (s : Refusal). Given (a ∷ rows) s) same (given_here s n h)

-- and of the last row, its verdict.
pub told_judged : {a : Ask} (k : Reason) (f : Option ℕ) {v : Verdict} → a.number ≡ number_of k → Finds a f → v ≡ told k f → Judged (a ∷ []) v
told_judged {a} k None n h e = rw e (sound (sound_next h sound_none))
told_judged {a} k (Some x) n h e = judged_refused (record { reason = k; place = x }) e (given_here (record { reason = k; place = x }) n h)
