-- The limit of the room.
use Rattle.std.proofs.Common.{arith, Bool, true, false, ◌≡◌, ◌≤◌, ℕ, leb, refl}
use borrow.Author.Tests.{leb-true, leb-false}
use Rattle.refusal.specs.helpers.Answers.{Says, fails, holds}
use Rattle.report_text.proofs.roomy.Goals as goal

says_leb : (a b : ℕ) → Says (a ≤ b) (leb a b)
says_leb a b = go (leb a b) refl
  where
    go : (t : Bool) → leb a b ≡ t → Says (a ≤ b) t
    go true e = holds (leb-true a b e)
    go false e = fails (λ h. omega (arith, leb-false a b e))

pub returns : goal.returns
returns c = search says_leb
