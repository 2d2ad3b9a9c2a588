-- A reply's number, place and count as one word of 64 bits.
use Rattle.std.specs.Prelude.{ℕ, ◌+◌, ◌*◌, min, Option}
use Rattle.refusal.specs.declared.Refusal.{Refusal}
use Rattle.refusal.specs.Numbers.{number_told, place_told}

-- The most that the count's 24 bits can tell: it stands for itself and all above.
abbrev pub most_count : ℕ
most_count = 16777215

-- The number in bits 0 to 7, the place in bits 8 to 23, the count in bits 40 to 63: 256 is 2 ^ 8, 1099511627776 is 2 ^ 40.
abbrev pub packed_of : ℕ → ℕ → ℕ → ℕ
packed_of k x count = k + 256 * x + 1099511627776 * min count most_count

-- The word of a reply: number and place are 0 where the call is done.
abbrev pub packed : Option Refusal → ℕ → ℕ
packed r count = packed_of (number_told r) (place_told r) count
