-- Markings and times that agree on a net's places and transitions have the same chosen circuit.
use mathlib.Core.Path.{◌≡◌, sym}
use mathlib.Core.List.{List}
use Prim.Native.Nat.{◌<◌, ℕ}
use Rattle.marked.specs.Net.{Net, Proper}
use Rattle.marked.proofs.Alike.{attains_alike}
use Rattle.circuit.specs.Chosen.{Chosen, Handed}

module _ (g : Net) (ok : Proper g) (m n time late : ℕ → ℕ) (tokened : (p : ℕ) → p < g.places → m p ≡ n p) (timed : (t : ℕ) → t < g.transitions → time t ≡ late t) where
  pub chosen_alike : (a b : ℕ) {ps : List ℕ} → Chosen g m time a b ps → Chosen g n late a b ps
  chosen_alike a b x =
      record {
        turn = x.turn;
        circuit = x.circuit;
        attains = attains_alike g ok m n time late tokened timed a b x.circuit.walk x.attains;
        lowest = x.lowest;
        first = λ c qs y z l. x.first c qs y (attains_alike g ok n m late time (λ p h. sym (tokened p h)) (λ t h. sym (timed t h)) a b y.walk z) l;
      }

  -- So the same is handed out.
  pub handed_alike : (a b : ℕ) {before after : List ℕ} {len : ℕ} → Handed g m time a b before len after → Handed g n late a b before len after
  handed_alike a b h = record { ring = h.ring; chosen = chosen_alike a b h.chosen; long = h.long; written = h.written }
