-- The input and the parts of its records (docs/CALLS.md).
use Rattle.std.specs.Prelude.{◌≡◌, List, [], ◌∷◌, ℕ, ◌+◌, ◌*◌, ◌<◌, ◌≤◌, cond, nat_lt, length}
use Rattle.little.specs.Little.{word}

-- The input of 60,000 bytes at most, and its copy.
pub record Twice (s copy : List ℕ) : Type 0 where
  pub short : length s ≤ 60000
  pub same : length copy ≡ length s

-- The next record begins behind this one, or the input ends.
pub record Next (s : List ℕ) (at next : ℕ) : Type 0 where
  pub further : at < next
  pub within : next ≤ length s

-- The entries of a list, two bytes each, the low one first.
abbrev pub words : List ℕ → List ℕ
words [] = []
words (low ∷ []) = []
words (low ∷ high ∷ s) = (low + 256 * high) ∷ words s

-- The count that a part begins with, two bytes; 0 where the input ends before them.
abbrev pub count_at : List ℕ → ℕ → ℕ
count_at s at = cond (nat_lt (at + 1) (length s)) (word s at) 0

-- The file, the list and the marking of the record at a place end here. Each stands behind its two bytes, the file behind the letter too.
pub record Ends (s : List ℕ) (at f l m : ℕ) : Type 0 where
  pub file : f ≡ at + 3 + count_at s (at + 1)
  pub list : l ≡ f + 2 + 2 * count_at s f
  pub marking : m ≡ l + 2 + count_at s l
