-- The order in which a sweep goes. Items are edges, 0 to E - 1, and operations, 128 and the row.
use Rattle.std.specs.Prelude.{◌≡◌, ◌⊎◌, List, ◌+◌, ◌-◌, ◌<◌, ◌≤◌, ℕ, length}
use Rattle.marked.specs.Net.{at}
use Rattle.net.specs.Limits.{most_edges}

-- The most items.
abbrev pub most_items : ℕ
most_items = 168

-- x is an item: an edge, or an operation.
abbrev pub Item : ℕ → ℕ → ℕ → Type 0
Item n e x = (x < e) ⊎ ((most_edges ≤ x) × (x < most_edges + n))

-- The list has every item.
pub record Ordered (n e : ℕ) (ord : List ℕ) : Type 0 where
  pub items : (j : ℕ) → j < n + e → Item n e (at ord j)
  pub all : (x : ℕ) → Item n e x → (j : ℕ) × (j < n + e) × (at ord j ≡ x)

-- Where the item x is: put in order, kept for the next pass, or still to come in this one.
pub data Where (left ord : List ℕ) (i l m c x : ℕ) : Type 0 where
  put : (j : ℕ) → j < c → at ord j ≡ x → Where left ord i l m c x
  kept : (j : ℕ) → j < m → at left j ≡ x → Where left ord i l m c x
  next : (j : ℕ) → i ≤ j → j < l → at left j ≡ x → Where left ord i l m c x

-- A pass over the l items of left stands at i: m are kept, c are in order, and none is lost.
pub record Sorting (n e : ℕ) (left ord : List ℕ) (i l m c : ℕ) : Type 0 where
  pub behind : m ≤ i
  pub within : i ≤ l
  pub most : l ≤ n + e
  pub sum : c + m + l ≡ n + e + i
  pub lefts : (j : ℕ) → j < l → Item n e (at left j)
  pub puts : (j : ℕ) → j < c → Item n e (at ord j)
  pub all : (x : ℕ) → Item n e x → Where left ord i l m c x
  pub wide : length left ≡ most_items
  pub long : length ord ≡ most_items

-- r is the item of number i: the edges first, then the operations.
pub record ItemAt (e i r : ℕ) : Type 0 where
  pub edge : i < e → r ≡ i
  pub operation : e ≤ i → r ≡ i - e + most_edges

-- The first i items stand in left.
pub record Enlisted (n e i : ℕ) (left : List ℕ) : Type 0 where
  pub each : (j : ℕ) → j < i → ItemAt e j (at left j)
  pub long : length left ≡ most_items
