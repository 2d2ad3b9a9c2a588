-- The two bytes and the ending, all at once.
use Prim.Native.Nat.{ℕ, ◌+◌}
use mathlib.Core.Bool.{Bool, ◌&&◌, false, true}
use mathlib.Core.List.{List}
use mathlib.Core.Path.{◌≡◌}
use native.Mathlib.Omega.{arith}
use borrow.Author.Rules.{rules}
use lib.Dec.{eqb}
use Rattle.std.proofs.lemmas.Bool.Decides.{nat_tests}
use Rattle.refusal.specs.helpers.Answers.{Says, fails, holds}
use Rattle.little.specs.Little.{byte_at}
use Rattle.file_trailer.specs.File.{trailer_at}
use Rattle.file.specs.Frame.{EndsWithMagic, Signed}
use Rattle.file.proofs.frame.signed.Goals as goal

signed_said : {f : List ℕ} {r s : Bool} → Says (EndsWithMagic f) s → r ≡ (eqb (byte_at f (trailer_at f + 10)) 1 && eqb (byte_at f (trailer_at f + 11)) 0 && s)
    → Says (Signed f) r
signed_said {r = true} (holds p) e = holds (record { layout = grind (arith, nat_tests); zero_byte = grind (arith, nat_tests); ends = p })
signed_said {r = true} (fails n) e = absurd (let z : ⊥ = grind (arith, nat_tests) in z)
signed_said {r = false} (holds p) e = fails (λ h. grind (arith, nat_tests))
signed_said {r = false} (fails n) e = fails (λ h. n h.ends)

pub returns-then-file-at-eq0 : goal.returns-then-file-at-eq0
unfolding trailer_at
returns-then-file-at-eq0 c = signed_said c.ends.ensures (search rules)

pub returns-else-file-at-eq0 : goal.returns-else-file-at-eq0
unfolding trailer_at
returns-else-file-at-eq0 c = rw c.if-file-at-eq0.false (fails (λ h. grind (arith, nat_tests, h.layout, h.zero_byte)))
