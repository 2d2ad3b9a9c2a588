-- Going back from a transition along the noted places.
use Rattle.std.specs.Prelude.{◌≡◌, ◌≢◌, List, ◌+◌, ◌<◌, ◌≤◌, suc, zero, ℕ, length}
use Rattle.marked.specs.Lists.{All}
use Rattle.marked.specs.Net.{Net, Walk, lasts, tokens}
use Rattle.tbo_sweep.specs.helpers.Raises.{Noted}

-- The transition before v: the source of the place noted at v; v itself where none is.
unfoldable pub behind : Net → ℕ → ℕ → ℕ
behind g v zero = v
behind g v (suc p) = g.src p

-- So many steps back from v.
unfoldable pub back : Net → (ℕ → ℕ) → ℕ → ℕ → ℕ
back g P zero v = v
back g P (suc k) v = behind g (back g P k v) (P (back g P k v))

-- Each note names a place that leads to where it stands.
pub record Notes (g : Net) (P : ℕ → ℕ) : Type 0 where
  pub inside : (v p : ℕ) → P v ≡ p + 1 → p < g.places
  pub ends : (v p : ℕ) → P v ≡ p + 1 → g.dst p ≡ v

-- w comes round: it has a note, and so many steps back lead to it again.
pub record Turns (g : Net) (P : ℕ → ℕ) (w : ℕ) : Type 0 where
  pub notes : Notes g P
  pub within : w < g.transitions
  pub noted : P w ≢ 0
  pub steps : ℕ
  pub some : 1 ≤ steps
  pub few : steps ≤ g.transitions
  pub round : back g P steps w ≡ w

-- k noted places lead from x to w, with time t and tokens n.
pub record Way (g : Net) (m time P : ℕ → ℕ) (k x w t n : ℕ) : Type 0 where
  pub places : List ℕ
  pub walk : Walk g x w places
  pub noted : All (Noted g P) places
  pub long : length places ≡ k
  pub lasts : lasts g time places ≡ t
  pub holds : tokens m places ≡ n

-- Noted places lead from w to w, with time t and tokens n.
pub record Round (g : Net) (m time P : ℕ → ℕ) (w t n : ℕ) : Type 0 where
  pub count : ℕ
  pub some : 1 ≤ count
  pub few : count ≤ g.transitions
  pub way : Way g m time P count w w t n

-- A closed walk of at most as many places as there are transitions, with time t and tokens n.
pub record Tour (g : Net) (m time : ℕ → ℕ) (t n : ℕ) : Type 0 where
  pub turn : ℕ
  pub places : List ℕ
  pub walk : Walk g turn turn places
  pub some : 1 ≤ length places
  pub few : length places ≤ g.transitions
  pub lasts : lasts g time places ≡ t
  pub holds : tokens m places ≡ n
