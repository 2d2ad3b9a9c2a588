-- Tests of TBO and of the circuit that is handed out: by potentials, and by the circuit that takes the lowest tight places.
use mathlib.Core.Path.{◌≡◌}
use mathlib.Core.List.{List, [], ◌∷◌}
use Prim.Native.Nat.{◌%◌, ◌*◌, ◌+◌, ◌<◌, ◌≤◌, ℕ}
use native.Mathlib.Nat.{mul-mod_left}
use native.Mathlib.Omega.{arith}
use Rattle.marked.specs.Net.{Net, lasts, tokens}
use Rattle.marked.specs.Circuits.{Circuit}
use Rattle.marked.specs.Bounds.{Attains, Certifies, Largest, Reduced, SameRatio, Tight}
use Rattle.marked.proofs.Decide.{all?, each?, eq?, given?, le?, lt?}
use Rattle.marked.proofs.Check.{certifies?, circuit?}
use Rattle.marked.proofs.Certificate.{certified}
use Rattle.net.specs.Plan.{Plan}
use Rattle.net.specs.Graph.{net_of, start_of, times_of}
use Rattle.circuit.specs.Chosen.{Chosen}
use Rattle.tbo.specs.TBO.{TBO}
use Rattle.cases.specs.Said.{TheCircuit}
use Rattle.cases.proofs.Trying.{Tried, and, fails, so, try}
use Rattle.cases.proofs.Searching.{number, potentials, ring}
use Rattle.cases.proofs.Greedy.{greedy_chosen}

-- Lowest terms: no smaller denominator serves.
pub reduced_by : (a b : ℕ) → 1 ≤ b → ((e : ℕ) → e < b → 1 ≤ e → a * e % b ≡ 0 → ⊥) → Reduced a b
reduced_by a b h fewer = record { positive = h; least = λ c e k s. at c e k s (lt? e b) }
  where
    at : (c e : ℕ) → 1 ≤ e → SameRatio a b c e → Dec (e < b) → b ≤ e
    at c e k s (yes l) = absurd (fewer e l k (rw s (mul-mod_left c b)))
    at c e k s (no l) = omega arith

abbrev reduced? : (a b : ℕ) → Tried (Reduced a b)
reduced? a b = so (λ x. reduced_by a b x.0 x.1) (and (try (le? 1 b)) (try (each? (λ e. given? (le? 1 e) (given? (eq? (a * e % b) 0) (no (λ z. z)))) b)))

module _ (g : Net) (m time : ℕ → ℕ) where
  -- A circuit that attains a / b, with potentials that certify it.
  module _ (a b : ℕ) (D : ℕ → ℕ) (p : ℕ) (ps : List ℕ) where
    abbrev Attained : Type 0
    Attained = Certifies g m time a b D × (Circuit g (g.src p) (p ∷ ps) × Attains g m time a b (p ∷ ps))

    abbrev attained? : Tried Attained
    attained? = and (try (certifies? g m time a b D)) (and (try (circuit? g (g.src p) (p ∷ ps))) (try (eq? (b * lasts g time (p ∷ ps)) (a * tokens m (p ∷ ps)))))

    pub attained_largest : Attained → Largest g m time a b
    attained_largest x = record { bound = λ c qs y. certified g m time a b D x.0 y.walk; turn = g.src p; ring = p ∷ ps; circuit = x.1.0; attains = x.1.1 }

    abbrev tight? : (q : ℕ) → Dec (Tight g m time a b D q)
    tight? q = eq? (D (g.src q) + b * time (g.src q)) (D (g.dst q) + a * m q)

    abbrev chosen? : Tried (Chosen g m time a b (p ∷ ps))
    chosen? =
        so (λ x. greedy_chosen g m time a b D x.0.0 x.0.1.0 x.1.0 x.1.1.0 x.0.1.1 x.1.1.1)
        (and attained?
        (and (try (each? (λ q. given? (tight? q) (le? p q)) g.places))
        (and (try (all? (λ r. each? (λ q. given? (tight? q) (given? (eq? (g.src q) (g.src r)) (le? r q))) g.places) ps)) (try (all? (λ q. le? p q) ps)))))

  abbrev largest? : (a b : ℕ) (D : ℕ → ℕ) → List ℕ → Tried (Largest g m time a b)
  largest? a b D [] = fails
  largest? a b D (p ∷ ps) = so (attained_largest a b D p ps) (attained? a b D p ps)

  abbrev first? : (a b : ℕ) (D : ℕ → ℕ) (ps : List ℕ) → Tried (Chosen g m time a b ps)
  first? a b D [] = fails
  first? a b D (p ∷ ps) = chosen? a b D p ps

module _ (g : Plan) where
  abbrev tbo_by : (a b : ℕ) (D : ℕ → ℕ) → Tried (TBO g a b)
  tbo_by a b D = so (λ x. record { largest = x.0; reduced = x.1 }) (and (largest? (net_of g) (start_of g) (times_of g) a b D (ring (net_of g) (start_of g) (times_of g) a b D)) (reduced? a b))

  abbrev pub tbo? : (a b : ℕ) → Tried (TBO g a b)
  tbo? a b = let k = potentials (net_of g) (start_of g) (times_of g) a b in tbo_by a b (number k)

  abbrev circuit_by : (a b : ℕ) (D : ℕ → ℕ) (ps : List ℕ) → Tried (TheCircuit g ps)
  circuit_by a b D ps = so (λ x. record { above = a; below = b; tbo = x.0; chosen = x.1 }) (and (tbo_by a b D) (first? (net_of g) (start_of g) (times_of g) a b D ps))

  abbrev pub the_circuit? : (ps : List ℕ) → Tried (TheCircuit g ps)
  the_circuit? ps =
      let a = lasts (net_of g) (times_of g) ps in
      let b = tokens (start_of g) ps in
      let k = potentials (net_of g) (start_of g) (times_of g) a b in
      circuit_by a b (number k) ps

  -- The circuit that is handed out at a / b.
  abbrev pub chosen_at? : (a b : ℕ) (ps : List ℕ) → Tried (Chosen (net_of g) (start_of g) (times_of g) a b ps)
  chosen_at? a b ps = let k = potentials (net_of g) (start_of g) (times_of g) a b in first? (net_of g) (start_of g) (times_of g) a b (number k) ps
