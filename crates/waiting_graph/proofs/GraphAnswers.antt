-- From rows 10 to 12 and the sum to the reply for a graph.
use mathlib.Core.Path.{refl}
use mathlib.Core.List.{List, [], ◌∷◌}
use Prim.Native.Nat.{◌*◌, ◌+◌, ◌<◌, ◌≤◌, ℕ}
use native.Mathlib.Omega.{arith}
use Rattle.refusal.specs.Asking.{Given, Sound}
use Rattle.refusal.specs.declared.Refusal.{Refusal}
use Rattle.refusal.proofs.Asked.{given_first, given_here, given_next, lowest_whole, sound_next, sound_none}
use Rattle.marked.specs.Net.{at}
use Rattle.marked.specs.Wait.{WaitSum}
use Rattle.net.specs.Plan.{Plan}
use Rattle.net.specs.Graph.{net_of}
use Rattle.accepting.specs.Rows.{row12, run_rows}
use Rattle.waiting_graph.specs.helpers.Work.{GraphWaits}
use Rattle.waiting_graph.specs.helpers.Work.GraphWaits.{refused, waits}
use Rattle.std.specs.Prelude.{Err, Ok}
use Rattle.refusal.specs.declared.Reason.TheVariants.{TransitionUnknown}

module _ {g : Plan} {m : List ℕ} {t : ℕ} where
  -- Refused by 10 or 11,
  pub answers_row : {r : Refusal} → Given (run_rows m g) r → GraphWaits g m t (Err r)
  answers_row h = refused (given_first (run_rows m g) (row12 t g ∷ []) h)

  -- by 12,
  pub answers_12 : Sound (run_rows m g) → 3 * g.operations + 2 ≤ t → GraphWaits g m t (Err (record { reason = TransitionUnknown; place = 0 }))
  answers_12 h l =
      refused (given_next h.kept.0 (given_next h.kept.1.0 (given_here (record { reason = TransitionUnknown; place = 0 }) refl (lowest_whole (λ k. omega arith)))))

  -- or accepted, with the sum.
  pub answers_wait : {w : ℕ} → Sound (run_rows m g) → t < 3 * g.operations + 2 → WaitSum (net_of g) (at m) t w → GraphWaits g m t (Ok w)
  answers_wait h l s = waits (sound_next h.kept.0 (sound_next h.kept.1.0 (sound_next (λ x p. omega arith) sound_none))) s
