-- The rows of the frame in order: what each failing test refuses, and what the frame grants.
use Prim.Native.Nat.{ℕ, ◌+◌, ◌*◌, ◌-◌, ◌≤◌, ◌<◌}
use mathlib.Core.Path.{◌≡◌, refl}
use mathlib.Core.Logic.{⊎_elim}
use mathlib.Core.List.{List}
use native.Mathlib.Omega.{arith}
use lib.ListN.{length}
use Rattle.refusal.specs.Asking.{Given, Sound}
use Rattle.refusal.proofs.Asked.{given_here, given_next, lowest_whole, sound_next, sound_none}
use Rattle.net.specs.Limits.{Within}
use Rattle.file_trailer.specs.File.{edges_at, edges_of, operations_at, operations_of, trailer_at}
use Rattle.file.specs.Frame.{CountsKept, Framed, Laid, Signed, Sized, frame_rows}
use Rattle.refusal.specs.declared.Reason.TheVariants.{CountsWrong, LengthWrong, TablesWrong, TrailerWrong}

module _ {f : List ℕ} where
  -- A file has its frame just if its rows are sound.
  pub framed_sound : Framed f → Sound (frame_rows f)
  framed_sound h = sound_next (λ x e. h.sized) (sound_next (λ x e. h.signed) (sound_next (λ x e. h.counted) (sound_next (λ x e. h.laid) sound_none)))

  pub sound_framed : Sound (frame_rows f) → Framed f
  sound_framed h = record { sized = h.kept.0 0 refl; signed = h.kept.1.0 0 refl; counted = h.kept.1.1.0 0 refl; laid = h.kept.1.1.1.0 0 refl }

-- Where the tables lie: each record of an operation and of an edge ends before the trailer.
module _ (f : List ℕ) (h : Framed f) where
  pub trailer_inside : trailer_at f + 16 ≡ length f
  unfolding trailer_at
  trailer_inside = omega (arith, h.sized)

  pub operation_inside : (i : ℕ) → Within 1 (operations_of f) i → operations_at f + 12 * (i - 1) + 12 + 16 ≤ length f
  operation_inside i w =
      ⊎_elim (λ p. omega (arith, trailer_inside, h.laid.filled)) (λ p. omega (arith, trailer_inside, h.laid.filled)) h.laid.order

  pub edge_inside : (e : ℕ) → e < edges_of f → edges_at f + 4 * e + 4 + 16 ≤ length f
  edge_inside e l =
      ⊎_elim (λ p. omega (arith, trailer_inside, h.laid.filled)) (λ p. omega (arith, trailer_inside, h.laid.filled)) h.laid.order

-- The refusals of rows 1 to 4: the first broken one is given.
pub refused_1 : (f : List ℕ) → (Sized f → ⊥) → Given (frame_rows f) (record { reason = LengthWrong; place = 0 })
refused_1 f n = given_here (record { reason = LengthWrong; place = 0 }) refl (lowest_whole n)

pub refused_2 : (f : List ℕ) → Sized f → (Signed f → ⊥) → Given (frame_rows f) (record { reason = TrailerWrong; place = 0 })
refused_2 f p n = given_next (λ x e. p) (given_here (record { reason = TrailerWrong; place = 0 }) refl (lowest_whole n))

pub refused_3 : (f : List ℕ) → Sized f → Signed f → (CountsKept f → ⊥) → Given (frame_rows f) (record { reason = CountsWrong; place = 0 })
refused_3 f p q n = given_next (λ x e. p) (given_next (λ x e. q) (given_here (record { reason = CountsWrong; place = 0 }) refl (lowest_whole n)))

pub refused_4 : (f : List ℕ) → Sized f → Signed f → CountsKept f → (Laid f → ⊥) → Given (frame_rows f) (record { reason = TablesWrong; place = 0 })
refused_4 f p q r n = given_next (λ x e. p) (given_next (λ x e. q) (given_next (λ x e. r) (given_here (record { reason = TablesWrong; place = 0 }) refl (lowest_whole n))))
