-- Sweeps: potentials of transitions that places raise, with the place that raised each last (its number plus one; 0: none yet).
use Rattle.std.specs.Prelude.{◌≡◌, ◌≢◌, List, Option, None, Some, ◌*◌, ◌+◌, ◌-◌, ◌<◌, ◌≤◌, suc, ℕ, length, set}
use Rattle.std.specs.Option.{option_or}
use Rattle.marked.specs.Net.{Net, at}
use Rattle.net.specs.Limits.{most_transitions}
use Rattle.fraction.specs.helpers.Loaded.{Loaded}

-- The place p is the one that raised its transition last.
abbrev pub Noted : Net → (ℕ → ℕ) → ℕ → Type 0
Noted g P p = P (g.dst p) ≡ p + 1

-- The place p raises its transition at the pair a, b, and is noted there; all else stays.
pub record Lift (g : Net) (m time : ℕ → ℕ) (a b p : ℕ) (D P E Q : ℕ → ℕ) : Type 0 where
  pub inside : p < g.places
  pub rise : D (g.dst p) + a * m p < D (g.src p) + b * time (g.src p)
  pub new : E (g.dst p) + a * m p ≡ D (g.src p) + b * time (g.src p)
  pub note : Noted g Q p
  pub same : (v : ℕ) → v ≢ g.dst p → E v ≡ D v
  pub kept : (v : ℕ) → v ≢ g.dst p → Q v ≡ P v

-- Several of them, one after the other.
pub data Lifts (g : Net) (m time : ℕ → ℕ) (a b : ℕ) (D P : ℕ → ℕ) : ℕ → (ℕ → ℕ) → (ℕ → ℕ) → Type 0 where
  none : Lifts g m time a b D P 0 D P
  more : {k : ℕ} {E Q F R : ℕ → ℕ} (p : ℕ) → Lifts g m time a b D P k E Q → Lift g m time a b p E Q F R → Lifts g m time a b D P (suc k) F R

-- The place p raises nothing from D to E.
abbrev pub NoRise : Net → (ℕ → ℕ) → (ℕ → ℕ) → ℕ → ℕ → (ℕ → ℕ) → (ℕ → ℕ) → ℕ → Type 0
NoRise g m time a b D E p = D (g.src p) + b * time (g.src p) ≤ E (g.dst p) + a * m p

-- The places of S were tried, with that many rises at most. y: the transition that rose last, if one did.
pub record SweptOver (g : Net) (m time : ℕ → ℕ) (a b : ℕ) (S : ℕ → Type 0) (most : ℕ) (D P E Q : ℕ → ℕ) (y : Option ℕ) : Type 0 where
  pub rises : ℕ
  pub few : rises ≤ most
  pub lifts : Lifts g m time a b D P rises E Q
  pub passed : (p : ℕ) → S p → NoRise g m time a b D E p
  pub quiet : y ≡ None → (v : ℕ) → E v ≡ D v
  pub loud : (v : ℕ) → y ≡ Some v → (v < g.transitions) × (D v < E v)

-- No potential is above top, and there is one for every transition.
pub record Level (top : ℕ) (d : List ℕ) : Type 0 where
  pub low : (v : ℕ) → at d v ≤ top
  pub long : length d ≡ most_transitions

-- The same, and a note for every transition.
pub record Room (top : ℕ) (d c : List ℕ) : Type 0 where
  pub low : (v : ℕ) → at d v ≤ top
  pub long : length d ≡ most_transitions
  pub wide : length c ≡ most_transitions

-- One raise, of t from s over the place p: the entry is raised and the place noted, or all is kept.
pub data Raised (s t p up down : ℕ) (d c : List ℕ) : List ℕ → List ℕ → Option ℕ → Type 0 where
  raised : t < length d
      → t < length c
      → at d t + down < at d s + up
      → Raised s t p up down d c (set d t (at d s + up - down)) (set c t (p + 1)) (Some t)
  kept : at d s + up ≤ at d t + down → Raised s t p up down d c d c None

-- The places of S were tried on the arrays d and c, which became h and k.
pub record SweptArrays (g : Loaded) (a b : ℕ) (S : ℕ → Type 0) (most : ℕ) (d c h k : List ℕ) (y : Option ℕ) : Type 0 where
  pub swept : SweptOver g.net g.held g.time a b S most (at d) (at c) (at h) (at k) y
  pub long : length h ≡ length d
  pub wide : length k ≡ length c

-- A raise, behind others: r is the transition that rose last by then, x before.
pub record RaisedAfter (s t p up down : ℕ) (d c : List ℕ) (x : Option ℕ) (h k : List ℕ) (r : Option ℕ) : Type 0 where
  pub own : Option ℕ
  pub raised : Raised s t p up down d c h k own
  pub last : r ≡ option_or own x

-- The same of the places of S.
pub record SweptAfter (g : Loaded) (a b : ℕ) (S : ℕ → Type 0) (most : ℕ) (d c : List ℕ) (x : Option ℕ) (h k : List ℕ) (r : Option ℕ) : Type 0 where
  pub own : Option ℕ
  pub swept : SweptArrays g a b S most d c h k own
  pub last : r ≡ option_or own x
