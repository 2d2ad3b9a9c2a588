-- Row 14 of the refusal table, over look's graph, as bounds asks it.
use Rattle.std.specs.Prelude.{ℕ, ◌≤◌, List, [], ◌∷◌, length}
use Rattle.refusal.specs.Asking.{Ask, asked}
use Rattle.net.specs.Graph.{net_of}
use Rattle.net.specs.Plan.{Plan}

-- 14: the circuit buffer has 3N + 2 entries at least. (No circuit has more places, for it leaves from no transition twice.)
abbrev pub Roomy : Plan → List ℕ → Type 0
Roomy g out = (net_of g).transitions ≤ length out

-- What `bounds` asks beyond look: 14.
abbrev pub bounds_rows : List ℕ → Plan → List Ask
bounds_rows out g = asked 14 (Roomy g out) ∷ []
