-- Plans that agree keep and break every row at the same places.
use Prim.Native.Nat.{ℕ}
use mathlib.Core.Path.{refl, sym, subst}
use native.Mathlib.Omega.{arith}
use Rattle.refusal.proofs.Same.{SameAsk, SameRows}
use Rattle.net.specs.Limits.{Duration}
use Rattle.net.specs.Plan.{Agree, Plan}
use Rattle.net.specs.Rules.{Allowed, Edge, Operation, Timely, graph_rows, row5, row6, row7, row8, row9}
use Rattle.net.proofs.Alike.{SameWires, alive_same, edge_same, joined_same, linked_same, node_same, transition_same}

pub agree_wires : {p q : Plan} → Agree p q → SameWires p q
agree_wires a = record { operations = a.operations; ends = record { edges = a.edges; from = a.from; to = a.to } }

pub agree_sym : {p q : Plan} → Agree p q → Agree q p
agree_sym a =
    record {
      operations = sym a.operations;
      edges = sym a.edges;
      time = λ i w. sym (a.time i (rw a.operations w));
      from = λ e l. sym (a.from e (rw a.edges l));
      to = λ e l. sym (a.to e (rw a.edges l));
      mark = λ e l. sym (a.mark e (rw a.edges l));
      buffers = λ e l. sym (a.buffers e (rw a.edges l));
    }

module _ {p q : Plan} (a : Agree p q) where
  operation_same : (i : ℕ) → Operation p i → Operation q i
  operation_same i w = rw a.operations at w

  timely_same : (i : ℕ) → Operation p i → Timely p i → Timely q i
  timely_same i w t = subst Duration (a.time i w) t

  allowed_same : (e : ℕ) → Edge p e → Allowed p e → Allowed q e
  allowed_same e l h =
      let n = a.operations in
      let x = a.from e l in
      let y = a.to e l in
      let m = a.mark e l in
      let z = a.buffers e l in
      record {
        leaves = omega (arith, h.leaves);
        enters = record { low_met = omega (arith, h.enters); high_met = omega (arith, h.enters) };
        marked = omega (arith, h.marked);
        zero_byte = omega (arith, h.zero_byte);
      }

-- Row by row.
pub agree_rows : (p q : Plan) → Agree p q → SameRows (graph_rows p) (graph_rows q)
agree_rows p q a =
    let b = agree_sym a in
    let w = agree_wires a in
    let v = agree_wires b in
    let five : SameAsk (row5 p) (row5 q) =
    record { number = refl; to = operation_same a; back = operation_same b; up = timely_same a; down = λ i h. timely_same b i (operation_same a i h) } in
    let six : SameAsk (row6 p) (row6 q) =
    record { number = refl; to = edge_same w.ends; back = edge_same v.ends; up = allowed_same a; down = λ e h. allowed_same b e (edge_same w.ends e h) } in
    let seven : SameAsk (row7 p) (row7 q) =
    record { number = refl; to = node_same w; back = node_same v; up = λ n h. linked_same w n; down = λ n h. linked_same v n } in
    let eight : SameAsk (row8 p) (row8 q) =
    record { number = refl; to = node_same w; back = node_same v; up = λ n h. joined_same w.ends n; down = λ n h. joined_same v.ends n } in
    let nine : SameAsk (row9 p) (row9 q) =
    record { number = refl; to = transition_same w; back = transition_same v; up = λ t h. alive_same w a.mark t; down = λ t h. alive_same v b.mark t } in
    (five, λ k5. (six, λ k6. (seven, λ k7. (eight, λ k8. (nine, λ k9. tt)))))
