-- The lists of tight places: for each transition its tight outgoing places in rising order.
use Rattle.std.specs.Prelude.{◌≡◌, ◌≢◌, List, ◌+◌, ◌<◌, ◌≤◌, ℕ, length}
use Rattle.marked.specs.Net.{Net, at}
use Rattle.marked.specs.Bounds.{Tight}
use Rattle.net.specs.Limits.{most_places, most_transitions}
use Rattle.fraction.specs.helpers.Loaded.{Loaded}

-- q is the first place of T from lo on that leaves v; the number of places where there is none.
pub record Next (g : Net) (T : ℕ → Type 0) (v lo q : ℕ) : Type 0 where
  pub most : q ≤ g.places
  pub fits : q < g.places → (lo ≤ q) × T q × (g.src q ≡ v)
  pub none : (p : ℕ) → lo ≤ p → p < q → T p → g.src p ≡ v → ⊥

-- The places of two arrays as a net: place q runs from src q to dst q.
abbrev pub drawn : ℕ → ℕ → List ℕ → List ℕ → Net
drawn nt np src dst = record { transitions = nt; places = np; src = at src; dst = at dst }

-- Place q is listed: its target is not the number that stands for none.
abbrev pub Listed : List ℕ → ℕ → Type 0
Listed dst q = at dst q ≢ most_transitions

-- From each listed place, the next one that leaves the same transition; both ends of a listed place are transitions, and they differ.
pub record Threaded (nt np : ℕ) (next src dst : List ℕ) : Type 0 where
  pub few : nt ≤ most_transitions
  pub many : np ≤ most_places
  pub nexts : (q : ℕ) → q < np → Listed dst q → Next (drawn nt np src dst) (Listed dst) (at src q) (q + 1) (at next q)
  pub leaves : (q : ℕ) → q < np → Listed dst q → at src q < nt
  pub enters : (q : ℕ) → q < np → Listed dst q → at dst q < nt
  pub apart : (q : ℕ) → q < np → Listed dst q → at src q ≢ at dst q

-- For each transition, the first listed place that leaves it.
pub record Headed (nt np : ℕ) (head src dst : List ℕ) : Type 0 where
  pub heads : (v : ℕ) → v < nt → Next (drawn nt np src dst) (Listed dst) v 0 (at head v)
  pub low : (v : ℕ) → at head v ≤ np
  pub long : length head ≡ most_transitions

-- The place p is tight at a / b for the potentials d.
abbrev pub TightIn : Loaded → ℕ → ℕ → List ℕ → ℕ → Type 0
TightIn g a b d p = Tight g.net g.held g.time a b (at d) p

-- The four arrays have room for every transition and place.
pub record Whole (head next src dst : List ℕ) : Type 0 where
  pub heads : length head ≡ most_transitions
  pub nexts : length next ≡ most_places
  pub sources : length src ≡ most_places
  pub targets : length dst ≡ most_places

-- The tight places from lo on are listed, and no other.
pub record Listing (g : Loaded) (a b : ℕ) (d : List ℕ) (lo : ℕ) (head next src dst : List ℕ) : Type 0 where
  pub heads : (v : ℕ) → v < g.net.transitions → Next g.net (TightIn g a b d) v lo (at head v)
  pub nexts : (q : ℕ) → lo ≤ q → q < g.net.places → TightIn g a b d q → Next g.net (TightIn g a b d) (g.net.src q) (q + 1) (at next q)
  pub tight : (q : ℕ) → lo ≤ q → q < g.net.places → Listed dst q → TightIn g a b d q × (at src q ≡ g.net.src q) × (at dst q ≡ g.net.dst q)
  pub listed : (q : ℕ) → lo ≤ q → q < g.net.places → TightIn g a b d q → Listed dst q
  pub blank : (q : ℕ) → q < lo → q < g.net.places → at dst q ≡ most_transitions
  pub low : (v : ℕ) → at head v ≤ g.net.places

-- The four arrays became h, k, u and w: what was listed from hi on is now listed from lo on.
pub record Lengthened (g : Loaded) (a b : ℕ) (d : List ℕ) (hi lo : ℕ) (head next src dst h k u w : List ℕ) : Type 0 where
  pub more : Listing g a b d hi head next src dst → Listing g a b d lo h k u w
