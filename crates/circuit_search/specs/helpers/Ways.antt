-- The ordered depth-first search for the first way from root to goal along places of T.
use Rattle.std.specs.Prelude.{◌≡◌, ◌≢◌, ◌⊎◌, List, [], ◌++◌, ◌∷◌, ◌<◌, ◌≤◌, ℕ}
use Rattle.marked.specs.Lists.{All, Avoids, Distinct}
use Rattle.marked.specs.Net.{Net, Walk}
use Rattle.marked.specs.Circuits.{froms}
use Rattle.marked.specs.Order.{Before}

module _ (g : Net) (T : ℕ → Type 0) (root goal : ℕ) where
  -- A way from root to goal along places of T that comes to no transition twice.
  pub record Rival (qs : List ℕ) : Type 0 where
    pub walk : Walk g root goal qs
    pub tight : All T qs
    pub simple : Distinct (goal ∷ froms g qs)

  -- Each rival begins with ts, or stands behind it.
  abbrev pub Best : List ℕ → Type 0
  Best ts = (qs : List ℕ) → Rival qs → ((rest : List ℕ) × (qs ≡ ts ++ rest)) ⊎ Before ts qs

  -- The way to x that the search is on: each of its places is noted in N, and its transitions are marked in M.
  pub data Trail (M N : ℕ → ℕ) : ℕ → List ℕ → Type 0 where
    here : Trail M N root []
    on :
        {x : ℕ} {ts : List ℕ} (q : ℕ) → Trail M N x ts → q < g.places → T q → g.src q ≡ x → Best (ts ++ (q ∷ [])) → M (g.dst q) ≢ 0
        → N (g.dst q) ≡ q → Trail M N (g.dst q) (ts ++ (q ∷ []))

  -- The state of the search: x and ts, the marks M, the notes N, and the place that each transition tries next, A.
  pub record Search (M N A : ℕ → ℕ) (x : ℕ) (ts : List ℕ) : Type 0 where
    pub trail : Trail M N x ts
    pub listed : (v : ℕ) → v < g.transitions → A v < g.places → T (A v) × (g.src (A v) ≡ v)
    pub tried : (q : ℕ) → q < g.places → T q → q < A (g.src q) → M (g.dst q) ≢ 0
    pub dead : (v : ℕ) → M v ≢ 0 → Avoids v (froms g ts) → v ≢ x → g.places ≤ A v
    pub done : (v : ℕ) → g.places < A v → (M v ≢ 0) × Avoids v (x ∷ froms g ts)
    pub free : M goal ≡ 0
    pub begun : M root ≢ 0
    pub stands : M x ≢ 0
    pub marks : All (λ (v : ℕ). M v ≢ 0) (froms g ts)
    pub simple : Distinct (x ∷ froms g ts)

  -- ts is the first way.
  pub record First (ts : List ℕ) : Type 0 where
    pub rival : Rival ts
    pub first : (qs : List ℕ) → Rival qs → (ts ≡ qs) ⊎ Before ts qs

  -- The places ts from root to x are those that N notes, from x backwards.
  pub data Trace (N : ℕ → ℕ) : ℕ → List ℕ → Type 0 where
    start : Trace N root []
    step : {ts : List ℕ} (q : ℕ) → Trace N (g.src q) ts → q < g.places → T q → N (g.dst q) ≡ q → Trace N (g.dst q) (ts ++ (q ∷ []))

  -- The first way, noted in N.
  pub record FirstNoted (N : ℕ → ℕ) : Type 0 where
    pub way : List ℕ
    pub first : First way
    pub trace : Trace N goal way

  -- There is no way.
  abbrev pub Cut : Type 0
  Cut = (qs : List ℕ) → Rival qs → ⊥
