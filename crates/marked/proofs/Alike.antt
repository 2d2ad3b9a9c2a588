-- Markings and times that agree on a net's places and transitions give the same largest time per token.
use mathlib.Core.Path.{◌≡◌, ap}
use mathlib.Core.List.{List}
use Prim.Native.Nat.{◌*◌, ◌<◌, ℕ}
use native.Mathlib.Omega.{arith}
use Rattle.marked.specs.Sums.{sum}
use Rattle.marked.specs.Net.{Net, Proper, Walk, go, lasts, stop, tokens}
use Rattle.marked.specs.Bounds.{Attains, Largest}

-- Along a walk, what agrees on the places adds up to the same.
pub sum_alike : {g : Net} {a b : ℕ} {ps : List ℕ} (f h : ℕ → ℕ) → ((p : ℕ) → p < g.places → f p ≡ h p) → Walk g a b ps → sum f ps ≡ sum h ps
unfolding sum
sum_alike f h same stop = omega arith
sum_alike f h same (go p l w) = omega (arith, same p l, sum_alike f h same w)

module _ (g : Net) (ok : Proper g) (m n time late : ℕ → ℕ) (tokened : (p : ℕ) → p < g.places → m p ≡ n p) (timed : (t : ℕ) → t < g.transitions → time t ≡ late t) where
  -- The tokens of a walk,
  pub tokens_alike : {a b : ℕ} {ps : List ℕ} → Walk g a b ps → tokens m ps ≡ tokens n ps
  tokens_alike w = sum_alike m n tokened w

  -- and what it takes.
  pub lasts_alike : {a b : ℕ} {ps : List ℕ} → Walk g a b ps → lasts g time ps ≡ lasts g late ps
  lasts_alike w = sum_alike (λ (p : ℕ). time (g.src p)) (λ (p : ℕ). late (g.src p)) (λ p l. timed (g.src p) (ok.src_in p l)) w

  -- A circuit attains the same,
  pub attains_alike : {c : ℕ} {ps : List ℕ} (a b : ℕ) → Walk g c c ps → Attains g m time a b ps → Attains g n late a b ps
  attains_alike a b w h = omega (arith, h, ap (λ (z : ℕ). b * z) (lasts_alike w), ap (λ (z : ℕ). a * z) (tokens_alike w))

  -- and the largest is the same.
  pub largest_alike : (a b : ℕ) → Largest g m time a b → Largest g n late a b
  largest_alike a b x =
      record {
        bound = λ c ps y. omega (arith, x.bound c ps y, ap (λ (z : ℕ). b * z) (lasts_alike y.walk), ap (λ (z : ℕ). a * z) (tokens_alike y.walk));
        turn = x.turn;
        ring = x.ring;
        circuit = x.circuit;
        attains = attains_alike a b x.circuit.walk x.attains;
      }
