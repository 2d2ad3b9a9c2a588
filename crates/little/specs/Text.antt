-- Quoted text as bytes: `bytes "AMG1"` is the list 65, 77, 71, 49. It computes, so a proof sees the list.
use Rattle.std.specs.Prelude.{ℕ, List, [] as none, ◌∷◌ as ◌then◌}
use Prim.Native.Char.{code}
use Prim.Native.String.{String, [], ◌∷◌}

-- The code of each character, in order: its byte, for text in ASCII.
abbrev pub bytes : String → List ℕ
bytes [] = none
bytes (c ∷ s) = code c then bytes s
