-- The number that the refusal table has for each reason, and what is told in its place where nothing is refused.
use Rattle.std.specs.Prelude.{ℕ, Option, Some, None, Result, Ok, Err}
use Rattle.refusal.specs.declared.Reason.{Reason}
use Rattle.refusal.specs.declared.Reason.TheVariants.{CircuitDead, CountsWrong, EdgeWrong, LengthWrong, MarkingUnreached, MarkingWrong, NodeApart, NodeLoose, RoomShort, TablesWrong, TimeWrong, TrailerWrong, TransitionDisabled, TransitionUnknown}
use Rattle.refusal.specs.declared.Refusal.{Refusal}

-- The row's number in the table.
abbrev pub number_of : Reason → ℕ
number_of LengthWrong = 1
number_of TrailerWrong = 2
number_of CountsWrong = 3
number_of TablesWrong = 4
number_of TimeWrong = 5
number_of EdgeWrong = 6
number_of NodeLoose = 7
number_of NodeApart = 8
number_of CircuitDead = 9
number_of MarkingWrong = 10
number_of MarkingUnreached = 11
number_of TransitionUnknown = 12
number_of TransitionDisabled = 13
number_of RoomShort = 14

-- The refusal of a reply, where it has one.
abbrev pub refusal_of : {A : Type 0} → Result A Refusal → Option Refusal
refusal_of (Ok x) = None
refusal_of (Err r) = Some r

-- The number that is told of a call: 0 where nothing is refused.
abbrev pub number_told : Option Refusal → ℕ
number_told None = 0
number_told (Some r) = number_of r.reason

-- The place that is told of a call: 0 where nothing is refused.
abbrev pub place_told : Option Refusal → ℕ
place_told None = 0
place_told (Some r) = r.place
