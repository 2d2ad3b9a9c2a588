-- No two reasons have one number.
use mathlib.Core.Path.{◌≡◌, ap, refl, sym, ◌∙◌}
use Prim.Native.Nat.{ℕ}
use Rattle.std.specs.Prelude.{◌-◌, [], ◌∷◌, get_or}
use Rattle.refusal.specs.Numbers.{number_of}
use Rattle.refusal.specs.declared.Reason.{Reason}
use Rattle.refusal.specs.declared.Reason.TheVariants.{CircuitDead, CountsWrong, EdgeWrong, LengthWrong, MarkingUnreached, MarkingWrong, NodeApart, NodeLoose, RoomShort, TablesWrong, TimeWrong, TrailerWrong, TransitionDisabled, TransitionUnknown}

-- The reason of a number, by position from 1.
reason_of : ℕ → Reason
reason_of k =
    get_or
    (LengthWrong ∷ TrailerWrong ∷ CountsWrong ∷ TablesWrong ∷ TimeWrong ∷ EdgeWrong ∷ NodeLoose ∷ NodeApart ∷ CircuitDead ∷ MarkingWrong ∷ MarkingUnreached ∷ TransitionUnknown ∷ TransitionDisabled ∷ RoomShort ∷ [])
    (k - 1) RoomShort

back : (r : Reason) → reason_of (number_of r) ≡ r
unfolding reason_of
back LengthWrong = refl
back TrailerWrong = refl
back CountsWrong = refl
back TablesWrong = refl
back TimeWrong = refl
back EdgeWrong = refl
back NodeLoose = refl
back NodeApart = refl
back CircuitDead = refl
back MarkingWrong = refl
back MarkingUnreached = refl
back TransitionUnknown = refl
back TransitionDisabled = refl
back RoomShort = refl

pub number_injective : {r s : Reason} → number_of r ≡ number_of s → r ≡ s
number_injective {r} {s} e = sym (back r) ∙ ap reason_of e ∙ back s
