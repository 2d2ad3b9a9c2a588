-- The three parts of the rule, all at once.
use Prim.Native.Nat.{ℕ, ◌+◌, ◌*◌}
use mathlib.Core.Bool.{Bool, ◌&&◌, ◌||◌, false, true}
use mathlib.Core.List.{List}
use mathlib.Core.Path.{◌≡◌}
use native.Mathlib.Omega.{arith}
use borrow.Author.Rules.{rules}
use lib.Dec.{eqb}
use Rattle.std.proofs.lemmas.Bool.Decides.{nat_tests}
use Rattle.refusal.specs.helpers.Answers.{Says, fails, holds}
use Rattle.file_trailer.specs.File.{trailer_at}
use Rattle.file_trailer.specs.declared.Trailer.{Trailer}
use Rattle.file_trailer.specs.helpers.Trailer.{TrailerOf}
use Rattle.file.specs.Frame.{Laid}
use Rattle.file.proofs.frame.laid.Goals as goal

laid_said : {f : List ℕ} {t : Trailer} {r : Bool} → TrailerOf f t
    → r ≡ (eqb t.back (trailer_at f) && eqb (12 * t.operations + 4 * t.edges) (trailer_at f)
    && (eqb t.optable 0 && eqb t.edgetable (12 * t.operations) || eqb t.edgetable 0 && eqb t.optable (4 * t.edges)))
    → Says (Laid f) r
laid_said {f} {t} {r = true} h e = holds (record { back = grind (arith, nat_tests); filled = grind (arith, nat_tests); order = grind (arith, nat_tests) })
laid_said {f} {t} {r = false} h e = fails (λ l. grind (arith, nat_tests))

pub returns-then-t-operations : goal.returns-then-t-operations
unfolding trailer_at
returns-then-t-operations c = laid_said c.numbers-t.ensures (search rules)

pub returns-then-t-eq0-2 : goal.returns-then-t-eq0-2
unfolding trailer_at
returns-then-t-eq0-2 c = laid_said c.numbers-t.ensures (search rules)

pub returns-else-t-eq0-2 : goal.returns-else-t-eq0-2
unfolding trailer_at
returns-else-t-eq0-2 c = laid_said c.numbers-t.ensures (search rules)

pub returns-else-operations-edges : goal.returns-else-operations-edges
unfolding trailer_at
returns-else-operations-edges c = laid_said c.numbers-t.ensures (search rules)
