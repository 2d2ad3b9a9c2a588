-- The two marks, each where the node needs it.
use Prim.Native.Nat.{ℕ}
use mathlib.Core.Bool.{Bool, ◌&&◌, ◌||◌, false, true}
use mathlib.Core.Path.{◌≡◌}
use native.Mathlib.Omega.{arith}
use borrow.Author.Rules.{rules}
use lib.Dec.{eqb, ltb}
use Rattle.std.proofs.lemmas.Bool.Decides.{nat_tests}
use Rattle.refusal.specs.helpers.Answers.{Says, fails, holds}
use Rattle.judge_links.specs.helpers.Ticks.{Bound}
use Rattle.judge_links.proofs.bound.Goals as goal

bound_said : {n node out into : ℕ} {r : Bool} → r ≡ ((eqb node 0 || eqb into 1) && (ltb n node || eqb out 1)) → Says (Bound n node out into) r
bound_said {n} {node} {out} {into} {r = true} e = holds (record { leaves = λ l. grind (arith, nat_tests); enters = λ l. grind (arith, nat_tests) })
bound_said {n} {node} {out} {into} {r = false} e = fails (λ b. grind (arith, nat_tests))

pub returns-then-n-node : goal.returns-then-n-node
returns-then-n-node c = bound_said (search rules)

pub returns-else-n-node : goal.returns-else-n-node
returns-else-n-node c = bound_said (search rules)

pub returns-else-into-eq1 : goal.returns-else-into-eq1
returns-else-into-eq1 c = bound_said (search rules)
