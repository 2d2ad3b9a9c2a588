-- How an input begins, where its bytes are known.
use Rattle.std.specs.Prelude.{◌≡◌, List, ℕ, take, IfSome}
use Rattle.std.specs.declared.option.Option.{Option}

-- These are its first n bytes, or all of a shorter one.
abbrev pub Begins : Option (List ℕ) → ℕ → List ℕ → Type 0
Begins input n bytes = IfSome input (λ xs. bytes ≡ take n xs)
