-- The worked graph P4 as a file, as a check that the definitions compute: it is refused 9 at 3, though the algorithm graph has no circuit.
use mathlib.Core.Path.{◌≡◌, refl}
use mathlib.Core.List.{List, [], ◌∷◌}
use Prim.Native.Nat.{ℕ}
use Rattle.little.specs.Little.{quad, word}
use Rattle.net.specs.Ends.{dst_of, src_of, start_at}
use Rattle.file_trailer.specs.File.{back_of, edge_byte, edges_at, edges_of, operations_at, operations_of, operation_time, trailer_at}
use Rattle.reader.proofs.Total.{look_of}
use Rattle.std.specs.Prelude.{Err}
use Rattle.refusal.specs.declared.Reason.TheVariants.{CircuitDead}

-- Two operations of time 1; 0-1, 1-2, 1-2*, 2-3; the trailer.
abbrev p4 : List ℕ
p4 =
    1 ∷ 0 ∷ 0 ∷ 0 ∷ 49 ∷ 32 ∷ 32 ∷ 32 ∷ 32 ∷ 32 ∷ 32 ∷ 32 ∷ 1 ∷ 0 ∷ 0 ∷ 0 ∷ 50 ∷ 32 ∷ 32 ∷ 32 ∷ 32 ∷ 32 ∷ 32 ∷ 32
    ∷ 0 ∷ 1 ∷ 0 ∷ 0 ∷ 1 ∷ 2 ∷ 0 ∷ 0 ∷ 1 ∷ 2 ∷ 1 ∷ 0 ∷ 2 ∷ 3 ∷ 0 ∷ 0
    ∷ 0 ∷ 0 ∷ 2 ∷ 0 ∷ 24 ∷ 0 ∷ 4 ∷ 0 ∷ 40 ∷ 0 ∷ 1 ∷ 0 ∷ 65 ∷ 77 ∷ 71 ∷ 49 ∷ []

pub p4_refused : look_of p4 ≡ Err (record { reason = CircuitDead; place = 3 })
unfolding look_of trailer_at operations_at operations_of edges_at edges_of back_of operation_time edge_byte word quad src_of dst_of start_at
p4_refused = refl
