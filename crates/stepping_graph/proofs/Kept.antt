-- What a refused marking keeps.
use Rattle.std.specs.Prelude.{List, ℕ, Err}
use Rattle.refusal.specs.Asking.{Judged}
use Rattle.refusal.specs.declared.Refusal.{Refusal}
use Rattle.refusal.proofs.Asked.{judged_given}
use Rattle.net.specs.Plan.{Plan}
use Rattle.accepting.specs.Rows.{run_rows}
use Rattle.stepping_graph.specs.helpers.Work.{GraphStepped}
use Rattle.stepping_graph.specs.helpers.Work.GraphStepped.{kept}

pub refused_kept : {g : Plan} {m : List ℕ} {t : ℕ} {r : Refusal} → Judged (run_rows m g) (Err r) → GraphStepped g m t (Err r) m
refused_kept h = kept (judged_given h)
