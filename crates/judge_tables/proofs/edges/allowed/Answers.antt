-- The limits of the four bytes, all at once.
use Prim.Native.Nat.{ℕ, ◌+◌}
use mathlib.Core.Bool.{Bool, ◌&&◌, false, true}
use mathlib.Core.Path.{◌≡◌}
use native.Mathlib.Omega.{arith}
use borrow.Author.Rules.{rules}
use lib.Dec.{eqb, leb}
use Rattle.std.proofs.lemmas.Bool.Decides.{nat_tests}
use Rattle.refusal.specs.helpers.Answers.{Says, fails, holds}
use Rattle.net.specs.Rules.{RowAllowed}
use Rattle.judge_tables.proofs.edges.allowed.Goals as goal

row_said : {n from to mark fourth : ℕ} {r : Bool} → r ≡ (leb from n && (leb 1 to && leb to (n + 1)) && leb mark 1 && eqb fourth 0)
    → Says (RowAllowed n from to mark fourth) r
row_said {n} {from} {to} {mark} {fourth} {r = true} e =
    holds
    (record {
      leaves = grind (arith, nat_tests);
      enters = record { low_met = grind (arith, nat_tests); high_met = grind (arith, nat_tests) };
      marked = grind (arith, nat_tests);
      zero_byte = grind (arith, nat_tests);
    })
row_said {n} {from} {to} {mark} {fourth} {r = false} e = fails (λ w. grind (arith, nat_tests))

pub returns-then-mark-le1 : goal.returns-then-mark-le1
returns-then-mark-le1 c = row_said (search rules)

pub returns-else-mark-le1 : goal.returns-else-mark-le1
returns-else-mark-le1 c = row_said (search rules)
