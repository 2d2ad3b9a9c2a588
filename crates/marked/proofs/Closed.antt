-- What holds of the sums over every circuit holds of the sums over every closed walk.
use mathlib.Core.Path.{◌≡◌, refl, sym}
use mathlib.Core.List.{List, [], ◌∷◌}
use Prim.Native.Nat.{◌*◌, ◌≤◌, ℕ}
use native.Mathlib.Omega.{arith}
use Rattle.marked.specs.Lists.{Distinct}
use Rattle.marked.specs.Sums.{sum}
use Rattle.marked.specs.Net.{Net, Walk, go, stop}
use Rattle.marked.specs.Circuits.{Circuit, froms}
use Rattle.marked.proofs.Loops.{cut_sum, unloop}

-- a closed walk that comes to no transition twice has no place
closed_empty : {g : Net} {a b : ℕ} {ps : List ℕ} → Walk g a b ps → a ≡ b → Distinct (b ∷ froms g ps) → ps ≡ []
closed_empty stop e d = refl
closed_empty (go p h w) e d = absurd (d.0.0 (sym e))

module _ (g : Net) (f h : ℕ → ℕ) (k l : ℕ) (each : (a : ℕ) (ps : List ℕ) → Circuit g a ps → k * sum f ps ≤ l * sum h ps) where
  -- The bound on circuits is one on closed walks: each is cut down to nothing, a circuit at a time.
  pub closed : {a : ℕ} {ps : List ℕ} → Walk g a a ps → k * sum f ps ≤ l * sum h ps
  unfolding sum
  closed {a} =
      unloop g {a = a} {b = a} (λ (ps : List ℕ). k * sum f ps ≤ l * sum h ps) (λ ps w d. rw (closed_empty w refl d) (omega arith))
      (λ ps r ih. rw (cut_sum f r, cut_sum h r) (omega (arith, each r.turn r.ring r.circuit)))
