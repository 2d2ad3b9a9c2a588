-- What the passes that order the items answer.
use Rattle.std.specs.Prelude.{◌≡◌, Bool, true, List, ◌+◌, ◌≤◌, ℕ}
use Rattle.tbo_order.specs.helpers.Items.{Sorting}

-- One item taken, at i of l: m and c items were kept and in order before, k and p are now. Forced, none is kept.
pub record Took (n e : ℕ) (left ord : List ℕ) (force : Bool) (i l m : ℕ) (k p : ℕ) : Type 0 where
  pub sorting : Sorting n e left ord (i + 1) l k p
  pub forced : force ≡ true → k ≡ m

-- A pass over l items: k are kept for the next. Forced, none is.
pub record PassDone (n e : ℕ) (left ord : List ℕ) (force : Bool) (l k p : ℕ) : Type 0 where
  pub sorting : Sorting n e left ord 0 k 0 p
  pub fewer : k ≤ l
  pub forced : force ≡ true → k ≡ 0
