-- What a move of the search leads to, and what the search answers.
use Rattle.std.specs.Prelude.{◌≡◌, Bool, true, false, Option, Some, None, List, get_or, ◌+◌, ◌<◌, ◌≤◌, ℕ, length}
use Rattle.marked.specs.Sums.{upto}
use Rattle.marked.specs.Net.{at}
use Rattle.net.specs.Limits.{most_transitions}
use Rattle.circuit_tight.specs.helpers.Lists.{Listed, drawn}
use Rattle.circuit_search.specs.helpers.Ways.{Cut, FirstNoted, Search}
use Rattle.circuit_search.specs.declared.Move.{Move}
use Rattle.circuit_search.specs.declared.Move.TheVariants.{At, GivenUp, Reached}

-- The marks as numbers: 1 for a transition that has been met.
abbrev pub mark : Bool → ℕ
mark true = 1
mark false = 0

abbrev pub marks : List Bool → ℕ → ℕ
marks seen v = mark (get_or seen v false)

-- The search stands at x with these arrays.
pub record Under (nt np : ℕ) (src dst : List ℕ) (root goal : ℕ) (seen : List Bool) (via cur : List ℕ) (x : ℕ) : Type 0 where
  pub ts : List ℕ
  pub search : Search (drawn nt np src dst) (Listed dst) root goal (marks seen) (at via) (at cur) x ts
  pub start : root < nt
  pub wide : length seen ≡ most_transitions
  pub deep : length via ≡ most_transitions
  pub long : length cur ≡ most_transitions
  pub low : (v : ℕ) → at cur v ≤ np + 1

-- What a move answers.
pub data MoveEnds (nt np : ℕ) (src dst : List ℕ) (root goal : ℕ) (seen : List Bool) (via cur : List ℕ) : Move → Type 0 where
  moved : {y : ℕ} → Under nt np src dst root goal seen via cur y → MoveEnds nt np src dst root goal seen via cur (At y)
  got : FirstNoted (drawn nt np src dst) (Listed dst) root goal (at via) → length via ≡ most_transitions → MoveEnds nt np src dst root goal seen via cur Reached
  gone : Cut (drawn nt np src dst) (Listed dst) root goal → length via ≡ most_transitions → MoveEnds nt np src dst root goal seen via cur GivenUp

-- After a move some transition has come further than in `before`.
pub record Turned (nt np : ℕ) (src dst : List ℕ) (root goal : ℕ) (before : List ℕ) (seen : List Bool) (via cur : List ℕ) (r : Move) : Type 0 where
  pub outcome : MoveEnds nt np src dst root goal seen via cur r
  pub further : upto (at before) most_transitions < upto (at cur) most_transitions

-- The first way back to where p leaves, noted in via; or that there is none.
pub record Sought (nt np : ℕ) (src dst : List ℕ) (p : ℕ) (via : List ℕ) (r : Bool) : Type 0 where
  pub long : length via ≡ most_transitions
  pub yes : r ≡ true → FirstNoted (drawn nt np src dst) (Listed dst) (at dst p) (at src p) (at via)
  pub no : r ≡ false → Cut (drawn nt np src dst) (Listed dst) (at dst p) (at src p)

-- The same of a place that may not be listed, and then has none.
pub record Tried (nt np : ℕ) (src dst : List ℕ) (p : ℕ) (via : List ℕ) (r : Bool) : Type 0 where
  pub long : length via ≡ most_transitions
  pub fits : r ≡ true → Listed dst p
  pub yes : r ≡ true → FirstNoted (drawn nt np src dst) (Listed dst) (at dst p) (at src p) (at via)
  pub no : r ≡ false → Listed dst p → Cut (drawn nt np src dst) (Listed dst) (at dst p) (at src p)

-- r is the lowest listed place with a way back, and via notes the first.
pub record LowestBack (nt np : ℕ) (src dst via : List ℕ) (r : ℕ) : Type 0 where
  pub inside : r < np
  pub below : (p : ℕ) → p < r → Listed dst p → Cut (drawn nt np src dst) (Listed dst) (at dst p) (at src p)
  pub listed : Listed dst r
  pub noted : FirstNoted (drawn nt np src dst) (Listed dst) (at dst r) (at src r) (at via)

-- There is such a place, or no listed place has a way back.
abbrev pub Lowest : ℕ → ℕ → List ℕ → List ℕ → List ℕ → Option ℕ → Type 0
Lowest nt np src dst via (Some r) = LowestBack nt np src dst via r
Lowest nt np src dst via None = (p : ℕ) → p < np → Listed dst p → Cut (drawn nt np src dst) (Listed dst) (at dst p) (at src p)
