-- What was read is how the input begins.
use Rattle.std.proofs.Common.{◌≡◌, ℕ, ◌≤◌, ◌<◌, ◌⊎◌, inl, inr, List, ◌++◌, length, take, take_all, append-nil, length-take-le, None, Some, IfSome, ap, sym, ◌∙◌, subst, arith}
use Rattle.std.specs.declared.option.Option.{Option}
use Rattle.std.specs.Io.KnownBytes.{Consumes, IsAtEnd}
use native.Mathlib.Nat.{eq-or-lt_of_le}
use lib.Seq.{take_at}
use Rattle.input.specs.Begins.{Begins}

-- The first n bytes of the buffer were taken from the input, and where the buffer is not full, nothing is left.
pub begins : (before after : Option (List ℕ)) (buffer : List ℕ) (n : ℕ) → n ≤ length buffer → Consumes before after (take n buffer) → (n < length buffer → IsAtEnd after)
    → Begins before (length buffer) (take n buffer)
begins None after buffer n within c whole = tt
begins (Some xs) None buffer n within c whole = absurd c
begins (Some xs) (Some ys) buffer n within c whole = go (eq-or-lt_of_le within)
  where
    go : (n ≡ length buffer) ⊎ (n < length buffer) → take n buffer ≡ take (length buffer) xs
    go (inl full) = sym (ap (take (length buffer)) c ∙ take_at (take n buffer) ys (length buffer) (omega (arith, full, length-take-le n buffer within)))
    go (inr short) =
        let all : xs ≡ take n buffer = c ∙ ap (λ l. take n buffer ++ l) (whole short) ∙ append-nil (take n buffer) in
        sym (ap (take (length buffer)) all ∙ take_all (length buffer) (take n buffer) (omega (arith, within, length-take-le n buffer within)))

-- What holds of these bytes holds of the input's first n.
pub of_first : (P : List ℕ → Type 0) (input : Option (List ℕ)) (m n : ℕ) (bytes : List ℕ) → m ≡ n → Begins input m bytes → P bytes → IfSome input (λ xs. P (take n xs))
of_first P None m n bytes e b p = tt
of_first P (Some xs) m n bytes e b p = subst P (b ∙ ap (λ k. take k xs) e) p
