-- From the reply for a graph to the reply for a file.
use mathlib.Core.Path.{◌≡◌, ◌∙◌, refl, subst}
use mathlib.Core.List.{List}
use Prim.Native.Nat.{ℕ}
use native.Mathlib.Omega.{arith}
use Rattle.refusal.specs.declared.Refusal.{Refusal}
use Rattle.refusal.proofs.Asked.{given_here, lowest_whole, sound_next, sound_none}
use Rattle.net.specs.Plan.{Plan}
use Rattle.net.specs.Graph.{net_of}
use Rattle.net.specs.helpers.Tables.{plan_of_accepted, plan_of_plotted}
use Rattle.net.specs.declared.rows.Accepted.{Accepted}
use Rattle.reader.specs.Reply.{LookReply, shown}
use Rattle.reader.specs.declared.graph.Graph.{Graph}
use Rattle.reader.specs.Outcome.{passed, refused as stopped, unread}
use Rattle.accepting.specs.Rows.{run_rows, start_rows}
use Rattle.firing.specs.Step.{Steps}
use Rattle.running.specs.Run.{Runs}
use Rattle.running.specs.declared.repeat.Ran.{Ran}
use Rattle.stepping.specs.Replies.{AtStart, RunReply, StartReply, StepReply}
use Rattle.stepping.specs.Replies.StartReply.{refused as start_refused, started}
use Rattle.stepping.specs.Replies.StepReply.{refused as step_refused, stepped}
use Rattle.stepping.specs.Replies.RunReply.{ran, refused as run_refused}
use Rattle.stepping_graph.specs.helpers.Work.{GraphRun, GraphStarted, GraphStepped}
use Rattle.stepping_graph.specs.helpers.Work.GraphStarted.{filled, unfit}
use Rattle.stepping_graph.specs.helpers.Work.GraphStepped.{kept as step_kept, taken as step_taken}
use Rattle.stepping_graph.specs.helpers.Work.GraphRun.{kept as run_kept, taken as run_taken}
use Rattle.std.specs.Prelude.{Err, Ok}
use Rattle.refusal.specs.Asking.{Given, Sound, Verdict}
use Rattle.refusal.specs.declared.Reason.TheVariants.{MarkingWrong}

-- What look refuses, the calls refuse;
module _ {f m : List ℕ} {r : Refusal} (look : LookReply f (Err r)) where
  pub start_unread : StartReply f m (Err r) m
  start_unread = start_refused (unread look)

  pub step_unread : {t : ℕ} → StepReply f m t (Err r) m
  step_unread = step_refused (unread look)

  pub run_unread : {list : List ℕ} → RunReply f m list (record { fired = 0; end = Err r }) m
  run_unread = run_refused (unread look)

-- what it accepts, they answer for its graph as it is lent. (Rows 10 and 11, steps and runs of a graph tell nothing of times.)
module _ {f m : List ℕ} {g : Graph} (look : LookReply f (Ok g)) (a : Accepted) (lent : plan_of_accepted a ≡ shown g) where
  pub start_reply : {v : Verdict} {z : List ℕ} → GraphStarted a.plotted.wiring.operations a.plotted.wiring.edges a.plotted.mark.now m v z → StartReply f m v z
  start_reply {z} (filled h w) =
      let start : AtStart (plan_of_accepted a) z = record { fits = w.long ∙ h; tokens = λ p b. w.filled p (omega arith) b } in
      started (passed look (subst (λ (p : Plan). Sound (start_rows m p)) lent (sound_next (λ x p. h) sound_none))) (subst (λ (p : Plan). AtStart p z) lent start)
  start_reply (unfit h) =
      let none : Given (start_rows m (plan_of_accepted a)) (record { reason = MarkingWrong; place = 0 }) = given_here (record { reason = MarkingWrong; place = 0 }) refl (lowest_whole h) in
      start_refused (stopped look (subst (λ (p : Plan). Given (start_rows m p) (record { reason = MarkingWrong; place = 0 })) lent none))

  -- The rows of the graph that is lent are those of the graph that is shown.
  kept_rows : Sound (run_rows m (plan_of_plotted a.plotted)) → Sound (run_rows m (shown g))
  kept_rows h = subst (λ (p : Plan). Sound (run_rows m p)) lent h

  given_rows : {r : Refusal} → Given (run_rows m (plan_of_plotted a.plotted)) r → Given (run_rows m (shown g)) r
  given_rows {r} h = subst (λ (p : Plan). Given (run_rows m p) r) lent h

  pub step_reply : {t : ℕ} {v : Verdict} {z : List ℕ} → GraphStepped (plan_of_plotted a.plotted) m t v z → StepReply f m t v z
  step_reply {t} {v} {z} (step_taken h s) = stepped (passed look (kept_rows h)) (subst (λ (p : Plan). Steps (net_of p) m t v z) lent s)
  step_reply (step_kept h) = step_refused (stopped look (given_rows h))

  pub run_reply : {list : List ℕ} {r : Ran} {z : List ℕ} → GraphRun (plan_of_plotted a.plotted) m list r z → RunReply f m list r z
  run_reply {list} {r} {z} (run_taken h s) = ran (passed look (kept_rows h)) (subst (λ (p : Plan). Runs (net_of p) m list r.fired r.end z) lent s)
  run_reply (run_kept h) = run_refused (stopped look (given_rows h))
