-- The last four bytes are equal to AMG1, as lists and so byte by byte.
use Prim.Native.Nat.{ℕ, ◌-◌}
use mathlib.Core.Path.{ap, ◌∙◌, sym}
use mathlib.Core.List.{List}
use native.Mathlib.Omega.{arith}
use lib.ListN.{drop, get_or, length}
use lib.Seq.{ext_get_or}
use Rattle.std.proofs.lemmas.Bool.Decides.{Decides-eqb}
use Rattle.std.proofs.lemmas.Slice.Eq.{slice_eq-Decides}
use Rattle.std.proofs.lemmas.List.{get_or-drop, length-drop}
use Rattle.refusal.proofs.Answers.{says_map}
use Rattle.judge_counts.proofs.Limits.{says_decided}
use Rattle.file.specs.Frame.{magic}
use Rattle.file.proofs.frame.ends.Goals as goal

pub returns : goal.returns
returns c =
    let f = c.args.file.now in
    let n = length f - 4 in
    let last : List ℕ = drop n f in
    says_map
    (λ e i l. sym (get_or-drop n f i 0) ∙ sym (ap (λ (xs : List ℕ). get_or xs i 0) e))
    (λ h. ext_get_or 0 magic last (omega (arith, length-drop n f)) (λ i l. sym (h i l) ∙ sym (get_or-drop n f i 0)))
    (says_decided _ (slice_eq-Decides Decides-eqb magic last _ c.ends_with.ensures.value))
