-- Searches for what shows a sentence: potentials, circuits, walks and paths. Nothing is proved of them, for what they find is tested.
use mathlib.Core.Bool.{Bool, true, false, ◌&&◌}
use mathlib.Core.List.{List, [], ◌∷◌, ◌++◌}
use Prim.Native.Nat.{◌*◌, ◌+◌, ◌-◌, suc, zero, ℕ}
use lib.Dec.{eqb, ltb}
use lib.ListN.{get_or, replicate, set}
use Rattle.marked.specs.Net.{Net}
use Rattle.net.specs.Plan.{Plan}
use Rattle.paths_finish.specs.Modified.{node_time}

-- f at 0, 1, .. below n, one after the other.
abbrev over : {A : Type 0} → (ℕ → A → A) → ℕ → A → A
over f zero x = x
over f (suc n) x = f n (over f n x)

-- What is known of each node or transition: a number, and the list that has it.
abbrev pub Known : Type 0
Known = List (ℕ × List ℕ)

abbrev pub number : Known → ℕ → ℕ
number k v = (get_or k v (0, [])).0

abbrev pub list : Known → ℕ → List ℕ
list k v = (get_or k v (0, [])).1

-- What is known of v becomes x with the list xs, where the test says so.
abbrev put : Bool → ℕ → ℕ → List ℕ → Known → Known
put true v x xs k = set k v (x, xs)
put false v x xs k = k

-- Higher, or lower.
abbrev raise : ℕ → ℕ → List ℕ → Known → Known
raise v x xs k = put (ltb (number k v) x) v x xs k

abbrev lower : ℕ → ℕ → List ℕ → Known → Known
lower v x xs k = put (ltb x (number k v)) v x xs k

-- The lowest number from x on that passes a test, of n that are tried.
abbrev pub first : (ℕ → Bool) → (n x : ℕ) → ℕ
first t zero x = x
first t (suc n) x = elim (t x) [ true ↦ x | false ↦ first t n (suc x) ]

module _ (g : Net) (m : ℕ → ℕ) where
  -- Fewest tokens from a transition, and a walk that has them.
  abbrev near : ℕ → Known → Known
  near p k = lower (g.dst p) (number k (g.src p) + m p) (list k (g.src p) ++ (p ∷ [])) k

  abbrev pub walks : ℕ → Known
  walks a = over (λ i k. over near g.places k) g.transitions (set (replicate g.transitions (65535, [])) a (0, []))

module _ (g : Net) (m time : ℕ → ℕ) where
  -- Potentials for a / b.
  abbrev climb : ℕ → ℕ → ℕ → Known → Known
  climb a b p k = raise (g.dst p) (number k (g.src p) + b * time (g.src p) - a * m p) [] k

  abbrev pub potentials : ℕ → ℕ → Known
  potentials a b = over (λ i k. over (climb a b) g.places k) g.transitions (replicate g.transitions (0, []))

  -- From the lowest tight place on, always the lowest tight place that leaves, until it comes round.
  abbrev tight : ℕ → ℕ → (ℕ → ℕ) → ℕ → Bool
  tight a b D p = eqb (D (g.src p) + b * time (g.src p)) (D (g.dst p) + a * m p)

  abbrev onward : ℕ → ℕ → (ℕ → ℕ) → (goal fuel v : ℕ) → List ℕ
  onward a b D goal zero v = []
  onward a b D goal (suc n) v =
      elim (eqb v goal) [
        | true ↦ []
        | false ↦ let q = first (λ p. eqb (g.src p) v && tight a b D p) g.places 0 in q ∷ onward a b D goal n (g.dst q)
      ]

  abbrev pub ring : ℕ → ℕ → (ℕ → ℕ) → List ℕ
  ring a b D = let p = first (tight a b D) g.places 0 in p ∷ onward a b D (g.src p) g.transitions (g.dst p)

module _ (g : Plan) where
  -- Largest sums in the modified graph, and paths that have them.
  abbrev later : ℕ → Known → Known
  later e k =
      let v = g.to e in
      let x = node_time g.operations g.time v in
      let sink = g.operations + 2 + e in
      elim (eqb (g.mark e) 0) [
        | true ↦ raise v (number k (g.from e) + x) (list k (g.from e) ++ (v ∷ [])) k
        | false ↦ raise sink (number k (g.from e)) (list k (g.from e) ++ (sink ∷ [])) (raise v x (v ∷ []) k)
      ]

  abbrev pub finishes : Known
  finishes = over (λ i k. over later g.edges k) (g.operations + 1) (replicate (g.operations + 2 + g.edges) (0, []))
