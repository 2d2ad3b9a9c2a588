-- The test of each sentence of a file: what is passed gives what the sentence means.
use mathlib.Core.Path.{◌≡◌, subst}
use mathlib.Core.List.{List}
use Prim.Native.Nat.{◌<◌, ℕ}
use native.Mathlib.Omega.{arith}
use lib.ListN.{length}
use Rattle.std.proofs.Common.{Result, Ok, Err}
use Rattle.refusal.specs.Numbers.{number_of}
use Rattle.refusal.specs.declared.Reason.{Reason}
use Rattle.refusal.specs.declared.Refusal.{Refusal}
use Rattle.refusal.proofs.Numbers.{number_injective}
use Rattle.refusal.proofs.Asked.{sound_next, sound_none}
use Rattle.marked.specs.Net.{at}
use Rattle.marked.proofs.Decide.{both?, each?, eq?, le?, lt?}
use Rattle.net.specs.Plan.{Plan}
use Rattle.net.specs.Good.{Good}
use Rattle.file_trailer.specs.File.{plan_of}
use Rattle.reader.specs.Reply.{LookReply, shown}
use Rattle.reader.specs.Outcome.{passed, refused as by_Row}
use Rattle.reader.specs.declared.graph.Graph.{Graph}
use Rattle.reader.proofs.Accepting.{accepted_good}
use Rattle.stepping.specs.Replies.{refused as run_refused, started, stepped}
use Rattle.waiting.specs.Reply.{refused as wait_refused}
use Rattle.bounds_graph.specs.declared.reply.Measures.{Measures}
use Rattle.report.specs.Reply.{written}
use Rattle.report_graph.specs.Numbers.{text_of}
use Rattle.report_text.specs.Room.{report_bytes}
use Rattle.cases.specs.Said.{Along, Begun, Holds, LookRefuses, MarkingRefused, NoCircuit, Of, ReportIs, StepRefuses, edge, onward}
use Rattle.cases.specs.Said.{Said, circuit_is, marking_refused, no_circuit, refused, report_is, step_refused, tbio_is, tbo_is, tt_is}
use Rattle.cases.proofs.Trying.{Tried, and, fails, so, try}
use Rattle.cases.proofs.Bounds.{tbo?, the_circuit?}
use Rattle.cases.proofs.Reports.{lists?, numbers?, tbio?, tt?, text_put}
use Rattle.cases.proofs.Calls.{began, begun?, step?, unreached?, zeros}

-- Edges that lead to a higher node close no circuit.
pub rising : (g : Plan) → ((e : ℕ) → e < g.edges → g.from e < g.to e) → {a b : ℕ} → Along g a b → a < b
rising g up (edge e l) = up e l
rising g up (onward e l w) = omega (arith, up e l, rising g up w)

abbrev no_circuit? : (g : Plan) → Tried (NoCircuit g)
no_circuit? g = so (λ up v w. absurd (omega (arith, rising g up w))) (try (each? (λ e. lt? (g.from e) (g.to e)) g.edges))

-- Look's refusal of a file.
abbrev refused? : (f : List ℕ) {s : Refusal} → LookReply f (Err s) → (k : Reason) (x : ℕ) → Tried (LookRefuses f k x)
refused? f {s} h k x = so (λ z. same z.0 z.1) (try (both? (eq? (number_of s.reason) (number_of k)) (eq? s.place x)))
  where
    same : number_of s.reason ≡ number_of k → s.place ≡ x → LookRefuses f k x
    same a b = subst (λ (t : Refusal). LookReply f (Err t)) (λ i. record { reason = number_injective a i; place = b i }) h

-- The sentences of a file that look accepts.
module _ (f : List ℕ) (g : Graph) (h : LookReply f (Ok g)) where
  abbrev plan : Plan
  plan = shown g

  pub good : Good g.operations g.edges g.times g.from g.to g.mark g.buffers
  good = accepted_good f h

  -- A test of the graph.
  abbrev of? : {P : Plan → Type 0} → Tried (P plan) → Tried (Of f P)
  of? t = so (λ x. record { graph = g; look = h; holds = x }) t

  -- The marking that start leaves.
  abbrev start? : Tried (Begun f (began g good))
  start? = so (λ x. record { buffer = zeros g good; start = started (passed h x.0) x.1 }) (begun? g good)

  -- A step that is refused.
  abbrev step_by : (t : ℕ) (k : Reason) (x : ℕ) → Tried (StepRefuses f t k x)
  step_by t k x = so (λ y. record { marking = began g good; begun = y.0; reply = stepped (passed h y.1.0) y.1.1 }) (and start? (step? g good (began g good) t k x))

  -- A marking that is refused.
  abbrev marking_by : (done : List ℕ → List ℕ) (k : Reason) (x : ℕ) → Tried (MarkingRefused f done k x)
  marking_by done k x =
      so
      (λ y. record {
        marking = began g good;
        begun = y.0;
        step = λ t. run_refused (by_Row h y.1.0);
        run = λ list. run_refused (by_Row h y.1.0);
        wait = λ t. wait_refused (by_Row h (y.1.1 t));
      })
      (and start? (unreached? g good (done (began g good)) k x))

  -- The report.
  abbrev report_by : (v : Measures) (ring waits text : List ℕ) → Tried (ReportIs f v ring waits text)
  report_by v ring waits text =
      so
      (λ y. record {
        numbers = record { graph = g; look = h; holds = y.0 };
        says = y.1.0;
        reply = λ before room. written (sound_next (λ _ _. room) sound_none) (passed h sound_none) y.0 (text_put before text y.1.0 (omega (arith, room, y.1.1)));
      })
      (and (numbers? plan v ring waits) (and (try (lists? (text_of plan v ring (at waits)) text)) (try (le? (length text) report_bytes))))

  abbrev accepted_said? : (s : Said) → Tried (Holds f s)
  accepted_said? (refused k x) = fails
  accepted_said? no_circuit = no_circuit? (plan_of f)
  accepted_said? (step_refused t k x) = step_by t k x
  accepted_said? (marking_refused done k x) = marking_by done k x
  accepted_said? (tbo_is a b) = of? (tbo? plan a b)
  accepted_said? (tbio_is s) = of? (tbio? plan s)
  accepted_said? (tt_is s) = of? (tt? plan s)
  accepted_said? (circuit_is ps) = of? (the_circuit? plan ps)
  accepted_said? (report_is m ring waits text) = report_by m ring waits text

-- The sentences of a file that look refuses.
abbrev refused_said? : (f : List ℕ) {s : Refusal} → LookReply f (Err s) → (s : Said) → Tried (Holds f s)
refused_said? f h (refused k x) = refused? f h k x
refused_said? f h no_circuit = no_circuit? (plan_of f)
refused_said? f h _ = fails

-- The sentences of a file, with look's reply to it.
abbrev pub said? : (f : List ℕ) (r : Result Graph Refusal) → LookReply f r → (s : Said) → Tried (Holds f s)
said? f (Ok g) h s = accepted_said? f g h s
said? f (Err r) h s = refused_said? f h s
