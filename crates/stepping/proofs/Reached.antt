-- Markings that the calls leave are reached; a run is its firings, and its entries one after the other.
use mathlib.Core.Path.{◌≡◌, ◌∙◌, refl, subst, sym}
use mathlib.Core.List.{List, [], ◌++◌, ◌∷◌}
use Prim.Native.Nat.{suc, ℕ}
use lib.ListN.{take}
use Rattle.refusal.specs.Asking.{Ask, Verdict}
use Rattle.refusal.specs.declared.Refusal.{Refusal}
use Rattle.refusal.proofs.Asked.{sound_next, sound_none}
use Rattle.marked.specs.Net.{Net, at}
use Rattle.marked.specs.Firing.{Fires, Reaches}
use Rattle.marked.specs.Firing.Fires.{still, then}
use Rattle.marked.proofs.Fired.{fires_join}
use Rattle.net.specs.Plan.{Plan}
use Rattle.net.specs.Graph.{net_of}
use Rattle.net.proofs.Safe.{safe}
use Rattle.reader.specs.Reply.{LookReply, shown}
use Rattle.reader.specs.Outcome.{Ends, accepted, passed}
use Rattle.reader.specs.declared.graph.Graph.{Graph}
use Rattle.reader.proofs.Accepting.{accepted_good}
use Rattle.reader.proofs.Determined.{look_determined}
use Rattle.reader.proofs.Outcomes.{accepted_not_refused, accepted_same, outcome_determined}
use Rattle.accepting.specs.Rows.{BytePerPlace, Reachable, run_rows}
use Rattle.firing.specs.Step.{Steps}
use Rattle.firing.specs.Step.Steps.{above, fires, waits}
use Rattle.firing.proofs.Steps.{steps_long}
use Rattle.running.specs.declared.repeat.Ran.{Ran}
use Rattle.running.specs.Run.{Runs}
use Rattle.running.specs.Run.Runs.{ends, goes, stops}
use Rattle.running.proofs.Firings.{runs_fires}
use Rattle.stepping.specs.Replies.{RunReply, StartReply, StepReply}
use Rattle.stepping.specs.Replies.StartReply.{started}
use Rattle.stepping.specs.Replies.StepReply.{refused as step_refused, stepped}
use Rattle.stepping.specs.Replies.RunReply.{ran, refused as run_refused}
use Rattle.std.specs.Prelude.{Err, Ok}

-- The graph of an accepted outcome is look's.
looks_graph : {f : List ℕ} {further : Plan → List Ask} {g : Graph} (h : Graph) → LookReply f (Ok h) → Ends f further (accepted g) → g ≡ h
looks_graph {f} {g} h p (passed q s) = let e = look_determined f (Ok g) (Ok h) q p in cc

-- Steps and runs lead from what is reached to what is reached.
steps_reached : {g : Net} {m₀ : ℕ → ℕ} {m z : List ℕ} {t : ℕ} {a : Verdict} → Reaches g m₀ (at m) → Steps g m t a z → Reaches g m₀ (at z)
steps_reached {t} r (fires f) = record { list = r.list ++ t ∷ []; fires = fires_join r.fires (then f.fire (still (λ p h. refl))) }
steps_reached r (above h) = r
steps_reached r (waits h l) = r

runs_reached : {g : Net} {m₀ : ℕ → ℕ} {m list z : List ℕ} {k : ℕ} {x : Verdict} → Reaches g m₀ (at m) → Runs g m list k x z → Reaches g m₀ (at z)
runs_reached {list} {k} r s = record { list = r.list ++ take k list; fires = fires_join r.fires (runs_fires s) }

-- The marking that `start` writes is reached.
pub start_reached : (f m z : List ℕ) (g : Graph) → LookReply f (Ok g) → StartReply f m (Ok tt) z → Reachable (shown g) z
start_reached f m z g p (started q s) = subst (λ (h : Graph). Reachable (shown h) z) (looks_graph g p q) (record { list = []; fires = still (λ x h. sym (s.tokens x h)) })

-- `step` keeps a reached marking reached,
pub step_reached : (f m z : List ℕ) (t : ℕ) (a : Verdict) (g : Graph) → LookReply f (Ok g) → Reachable (shown g) m → StepReply f m t a z → Reachable (shown g) z
step_reached f m z t a g p r (stepped q s) = steps_reached r (subst (λ (h : Graph). Steps (net_of (shown h)) m t a z) (looks_graph g p q) s)
step_reached f m z t a g p r (step_refused q) = r

-- and so does `run`.
pub run_reached : (f m list z : List ℕ) (x : Ran) (g : Graph) → LookReply f (Ok g) → Reachable (shown g) m → RunReply f m list x z → Reachable (shown g) z
run_reached f m list z x g p r (ran q s) = runs_reached r (subst (λ (h : Graph). Runs (net_of (shown h)) m list x.fired x.end z) (looks_graph g p q) s)
run_reached f m list z x g p r (run_refused q) = r

-- As many entries as `run` says have fired in look's graph, in the list's order, and led to its bytes.
pub run_fires : (f m list z : List ℕ) (x : Ran) (g : Graph) → LookReply f (Ok g) → RunReply f m list x z → Fires (net_of (shown g)) (at m) (take x.fired list) (at z)
run_fires f m list z x g p (ran q s) = subst (λ (h : Graph). Fires (net_of (shown h)) (at m) (take x.fired list) (at z)) (looks_graph g p q) (runs_fires s)
run_fires f m list z x g p (run_refused q) = still (λ y h. refl)

-- A reached marking of an accepted file is accepted: no byte is above 1.
accepted_again : {f z : List ℕ} {further : Plan → List Ask} {g : Graph} → Ends f further (accepted g) → BytePerPlace (shown g) z → Reachable (shown g) z → Ends f (run_rows z) (accepted g)
accepted_again {f} {z} {g} (passed look s) fits r =
    let single = safe (shown g) (accepted_good f look).marked.single r in
    passed look (sound_next (λ x p. record { fits = fits; single = single }) (sound_next (λ x p. r) sound_none))

-- So is the marking that a step leaves.
steps_accepted : {f m z : List ℕ} {g : Graph} {t : ℕ} {a : Verdict} → Ends f (run_rows m) (accepted g) → Steps (net_of (shown g)) m t a z → Ends f (run_rows z) (accepted g)
steps_accepted {m} (passed look k) s = accepted_again {further = run_rows m} (passed look k) (steps_long s ∙ (k.kept.0 0 refl).fits) (steps_reached (k.kept.1.0 0 refl) s)

-- `run` of no entry, of a marking that is accepted, fires nothing and leaves it.
pub run_none : (f m : List ℕ) (g : Graph) → Ends f (run_rows m) (accepted g) → RunReply f m [] (record { fired = 0; end = Ok tt }) m
run_none f m g p = ran p ends

-- Where `step` fires the first entry, `run` goes on from the marking that it leaves, with one firing more;
pub run_goes : (f m y z list : List ℕ) (t : ℕ) (r : Ran) → StepReply f m t (Ok tt) y → RunReply f y list r z → RunReply f m (t ∷ list) (record { fired = suc r.fired; end = r.end }) z
run_goes f m y z list t r (stepped p s) (ran q u) =
    let same = accepted_same (outcome_determined f (run_rows y) q (steps_accepted p s)) in
    ran p (goes s (subst (λ (h : Graph). Runs (net_of (shown h)) y list r.fired r.end z) same u))
run_goes f m y z list t r (stepped p s) (run_refused q) = accepted_not_refused (outcome_determined f (run_rows y) (steps_accepted p s) q)

-- where `step` refuses it, `run` stops there, with no firing.
pub run_stops : (f m z list : List ℕ) (t : ℕ) (r : Refusal) → StepReply f m t (Err r) z → RunReply f m (t ∷ list) (record { fired = 0; end = Err r }) z
run_stops f m z list t r (stepped p s) = ran p (stops s)
run_stops f m z list t r (step_refused p) = run_refused p
