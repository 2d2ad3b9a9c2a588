-- Look refuses with a number from 1 to 9 and a low place, so the line of a refusal is short.
use Prim.Native.Nat.{ℕ, ◌<◌}
use mathlib.Core.Path.{refl}
use mathlib.Core.Logic.{⊎_elim}
use mathlib.Core.List.{List}
use native.Mathlib.Omega.{arith}
use Rattle.refusal.specs.Asking.{FirstBroken, Given}
use Rattle.refusal.specs.Numbers.{number_of}
use Rattle.refusal.specs.declared.Refusal.{Refusal}
use Rattle.net.specs.Limits.{Counted}
use Rattle.net.specs.Plan.{Plan}
use Rattle.net.specs.Rules.{graph_rows}
use Rattle.file_trailer.specs.File.{plan_of}
use Rattle.file.specs.Frame.{look_rows}

-- A number and a place that take few digits.
abbrev Small : ℕ → ℕ → Type 0
Small k x = (k < 10) × (x < 1000)

-- Rows 5 to 9, where the counts are within their limits.
graph_small : (g : Plan) → Counted g.operations g.edges → (k x : ℕ) → FirstBroken (graph_rows g) k x → Small k x
graph_small g c k x =
    ⊎_elim (λ p. omega (arith, p.0, p.1.place.high_met, c.operations.high_met))
    (λ q. ⊎_elim (λ p. omega (arith, p.0, p.1.place, c.edges.high_met))
    (λ q. ⊎_elim (λ p. omega (arith, p.0, p.1.place, c.operations.high_met))
    (λ q. ⊎_elim (λ p. omega (arith, p.0, p.1.place, c.operations.high_met))
    (λ q. ⊎_elim (λ p. omega (arith, p.0, p.1.place, c.operations.high_met)) (λ q. absurd q.1) q.1) q.1) q.1) q.1)

-- All rows of look.
pub given_small : (f : List ℕ) (r : Refusal) → Given (look_rows f) r → (number_of r.reason < 10) × (r.place < 1000)
given_small f r h = look h.first
  where
    look : FirstBroken (look_rows f) (number_of r.reason) r.place → Small (number_of r.reason) r.place
    look =
        ⊎_elim (λ p. omega (arith, p.0, p.1.place))
        (λ q. ⊎_elim (λ p. omega (arith, p.0, p.1.place))
        (λ q. ⊎_elim (λ p. omega (arith, p.0, p.1.place))
        (λ three. ⊎_elim (λ p. omega (arith, p.0, p.1.place)) (λ q. graph_small (plan_of f) (three.0 0 refl) (number_of r.reason) r.place q.1) three.1) q.1) q.1)
