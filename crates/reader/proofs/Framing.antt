-- Rows 1 to 4 are decided, by tests that compute.
use mathlib.Core.Logic.{◌⊎◌, inl, inr, ⊎_elim}
use mathlib.Core.List.{List}
use Prim.Native.Nat.{◌+◌, ◌*◌, ◌-◌, ℕ}
use lib.ListN.{length, get_or}
use Rattle.little.specs.Little.{byte_at}
use Rattle.marked.proofs.Decide.{eq?, both?, same?, each?}
use Rattle.net.specs.Limits.{most_edges, most_operations}
use Rattle.file_trailer.specs.Limits.{edge_bytes, longest_file, operation_bytes, trailer_bytes}
use Rattle.file_trailer.specs.File.{trailer_at, operations_at, operations_of, edges_at, edges_of, back_of}
use Rattle.file.specs.Frame.{CountsKept, Laid, Signed, Sized, magic}
use Rattle.judge.proofs.Deciding.{within?}

abbrev pub sized? : (f : List ℕ) → Dec (Sized f)
sized? f = within? trailer_bytes longest_file (length f)

abbrev pub signed? : (f : List ℕ) → Dec (Signed f)
signed? f =
    same? (λ x. record { layout = x.0; zero_byte = x.1.0; ends = x.1.1 }) (λ s. (s.layout, (s.zero_byte, s.ends)))
    (both? (eq? (byte_at f (trailer_at f + 10)) 1) (both? (eq? (byte_at f (trailer_at f + 11)) 0) (each? (λ i. eq? (byte_at f (length f - 4 + i)) (get_or magic i 0)) 4)))

abbrev pub counted? : (f : List ℕ) → Dec (CountsKept f)
counted? f =
    same? (λ x. record { operations = x.0; edges = x.1 }) (λ c. (c.operations, c.edges)) (both? (within? 1 most_operations (operations_of f)) (within? 2 most_edges (edges_of f)))

abbrev or? : {A B : Type 0} → Dec A → Dec B → Dec (A ⊎ B)
or? (yes a) d = yes (inl a)
or? (no f) (yes b) = yes (inr b)
or? (no f) (no g) = no (λ x. ⊎_elim f g x)

abbrev pub laid? : (f : List ℕ) → Dec (Laid f)
laid? f =
    same? (λ x. record { back = x.0; filled = x.1.0; order = x.1.1 }) (λ l. (l.back, (l.filled, l.order)))
    (both? (eq? (back_of f) (trailer_at f))
    (both? (eq? (operation_bytes * operations_of f + edge_bytes * edges_of f) (trailer_at f))
    (or?
    (both? (eq? (operations_at f) 0) (eq? (edges_at f) (operation_bytes * operations_of f)))
    (both? (eq? (edges_at f) 0) (eq? (operations_at f) (edge_bytes * edges_of f))))))
