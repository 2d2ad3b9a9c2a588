-- The largest time per token of a circuit, in lowest terms, and what certifies that no circuit has more.
use Rattle.std.specs.Prelude.{◌≡◌, List, ◌*◌, ◌+◌, ◌<◌, ◌≤◌, ℕ}
use Rattle.marked.specs.Net.{Net, lasts, tokens}
use Rattle.marked.specs.Circuits.{Circuit}

-- Here `m` tells the tokens of each place, `time` what each transition takes.

-- D certifies a / b: across each place D falls by no more than a for each token, less b for each unit of time.
abbrev pub Certifies : Net → (ℕ → ℕ) → (ℕ → ℕ) → ℕ → ℕ → (ℕ → ℕ) → Type 0
Certifies g m time a b D = (p : ℕ) → p < g.places → D (g.src p) + b * time (g.src p) ≤ D (g.dst p) + a * m p

-- The place p is tight: equality holds there.
abbrev pub Tight : Net → (ℕ → ℕ) → (ℕ → ℕ) → ℕ → ℕ → (ℕ → ℕ) → ℕ → Type 0
Tight g m time a b D p = D (g.src p) + b * time (g.src p) ≡ D (g.dst p) + a * m p

-- The places ps attain a / b: their time is a / b for each token.
abbrev pub Attains : Net → (ℕ → ℕ) → (ℕ → ℕ) → ℕ → ℕ → List ℕ → Type 0
Attains g m time a b ps = b * lasts g time ps ≡ a * tokens m ps

-- a / b is the largest time per token: no circuit has more, and one attains it.
pub record Largest (g : Net) (m time : ℕ → ℕ) (a b : ℕ) : Type 0 where
  pub bound : (c : ℕ) (ps : List ℕ) → Circuit g c ps → b * lasts g time ps ≤ a * tokens m ps
  pub turn : ℕ
  pub ring : List ℕ
  pub circuit : Circuit g turn ring
  pub attains : Attains g m time a b ring

-- a / b and c / e are the same fraction.
abbrev pub SameRatio : ℕ → ℕ → ℕ → ℕ → Type 0
SameRatio a b c e = a * e ≡ c * b

-- a / b is in lowest terms: no fraction of a smaller denominator is the same.
pub record Reduced (a b : ℕ) : Type 0 where
  pub positive : 1 ≤ b
  pub least : (c e : ℕ) → 1 ≤ e → SameRatio a b c e → b ≤ e
