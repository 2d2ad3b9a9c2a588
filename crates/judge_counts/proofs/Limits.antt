-- What a test of both limits says.
use Prim.Native.Nat.{ℕ}
use mathlib.Core.Bool.{Bool, ◌&&◌, false, true, true≢false}
use mathlib.Core.Path.{◌≡◌, refl, sym}
use native.Mathlib.Omega.{arith}
use lib.Dec.{leb}
use Rattle.std.specs.Bool.{Decides}
use Rattle.std.proofs.lemmas.Bool.Decides.{nat_tests}
use Rattle.refusal.specs.helpers.Answers.{Says, fails, holds}
use Rattle.net.specs.Limits.{Within}

pub says_within : {low high n : ℕ} {r : Bool} → r ≡ (leb low n && leb n high) → Says (Within low high n) r
says_within {low} {high} {n} {r = true} e = holds (record { low_met = grind (arith, nat_tests); high_met = grind (arith, nat_tests) })
says_within {low} {high} {n} {r = false} e = fails (λ w. grind (arith, nat_tests))

-- A test that decides P answers it.
pub says_decided : {P : Type 0} (r : Bool) → Decides r P → Says P r
says_decided true d = holds (d.0 refl)
says_decided false d = fails (λ p. true≢false (sym (d.1 p)))
