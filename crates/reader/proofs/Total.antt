-- Every file has a reply, and it computes: `look_of`. With `look_determined` this decides `LookReply`, for files that are written out.
use mathlib.Core.Path.{◌≡◌, refl, ◌∙◌, ap}
use mathlib.Core.List.{List, [], ◌∷◌}
use Prim.Native.Nat.{◌+◌, ◌<◌, ◌≤◌, suc, zero, ℕ}
use native.Mathlib.Omega.{arith}
use lib.Dec.{ltb}
use lib.ListN.{length, get_or, get_or-eq_default}
use borrow.Author.Tests.{lt-ltb, le-ltb}
use Rattle.refusal.specs.Asking.{Judged, given, sound, Verdict}
use Rattle.refusal.proofs.Asked.{given_first, judged_after, sound_parts}
use Rattle.marked.proofs.Decide.{lt?}
use Rattle.net.specs.Limits.{most_edges, most_operations}
use Rattle.net.specs.Plan.{Plan}
use Rattle.net.specs.Ends.{pick}
use Rattle.net.specs.Rules.{graph_rows}
use Rattle.file_trailer.specs.File.{operations_of, edges_of, plan_of}
use Rattle.file.specs.Frame.{CountsKept, Framed, Laid, Signed, Sized, frame_rows, look_rows}
use Rattle.file.proofs.Order.{framed_sound, refused_1, refused_2, refused_3, refused_4, sound_framed}
use Rattle.judge.proofs.Deciding.{Verdicts, graph_verdict}
use Rattle.reader_tables.specs.Filled.{Filled}
use Rattle.reader.specs.Reply.{LookReply, Shows, declined, looked}
use Rattle.reader.specs.declared.graph.Graph.{Graph}
use Rattle.reader.proofs.Determined.{look_determined}
use Rattle.reader.proofs.Framing.{counted?, laid?, signed?, sized?}
use Rattle.std.specs.Prelude.{Err, Ok, Result}
use Rattle.refusal.specs.declared.Reason.TheVariants.{CountsWrong, LengthWrong, TablesWrong, TrailerWrong}
use Rattle.refusal.specs.declared.Refusal.{Refusal}

-- Rows 1 to 4, then the graph's.
module _ (f : List ℕ) where
  abbrev at_4 : Sized f → Signed f → CountsKept f → Dec (Laid f) → Verdicts (look_rows f)
  at_4 s g c (yes l) =
      let w : Framed f = record { sized = s; signed = g; counted = c; laid = l } in
      ((graph_verdict (plan_of f)).0, judged_after (frame_rows f) (graph_rows (plan_of f)) (framed_sound w) (graph_verdict (plan_of f)).1)
  at_4 s g c (no n) = (Err (record { reason = TablesWrong; place = 0 }), given (given_first (frame_rows f) (graph_rows (plan_of f)) (refused_4 f s g c n)))

  abbrev at_3 : Sized f → Signed f → Dec (CountsKept f) → Verdicts (look_rows f)
  at_3 s g (yes c) = at_4 s g c (laid? f)
  at_3 s g (no n) = (Err (record { reason = CountsWrong; place = 0 }), given (given_first (frame_rows f) (graph_rows (plan_of f)) (refused_3 f s g n)))

  abbrev at_2 : Sized f → Dec (Signed f) → Verdicts (look_rows f)
  at_2 s (yes g) = at_3 s g (counted? f)
  at_2 s (no n) = (Err (record { reason = TrailerWrong; place = 0 }), given (given_first (frame_rows f) (graph_rows (plan_of f)) (refused_2 f s n)))

  abbrev at_1 : Dec (Sized f) → Verdicts (look_rows f)
  at_1 (yes s) = at_2 s (signed? f)
  at_1 (no n) = (Err (record { reason = LengthWrong; place = 0 }), given (given_first (frame_rows f) (graph_rows (plan_of f)) (refused_1 f n)))

  abbrev verdicts : Verdicts (look_rows f)
  verdicts = at_1 (sized? f)

-- The array whose first n entries are the values of h, and the others 0.
abbrev fill : ℕ → ℕ → (ℕ → ℕ) → ℕ → List ℕ
fill zero n h i = []
fill (suc room) n h i = pick (ltb i n) (h i) 0 ∷ fill room n h (suc i)

fill_long : (room n : ℕ) (h : ℕ → ℕ) (i : ℕ) → length (fill room n h i) ≡ room
fill_long zero n h i = refl
fill_long (suc room) n h i = ap suc (fill_long room n h (suc i))

fill_at : (room n : ℕ) (h : ℕ → ℕ) (i j : ℕ) → j < room → get_or (fill room n h i) j 0 ≡ pick (ltb (i + j) n) (h (i + j)) 0
fill_at zero n h i j l = absurd (omega arith)
fill_at (suc room) n h i zero l = let e : i ≡ i + 0 = omega arith in ap (λ (x : ℕ). pick (ltb x n) (h x) 0) e
fill_at (suc room) n h i (suc j) l =
    let e : suc i + j ≡ i + suc j = omega arith in
    fill_at room n h (suc i) j (omega arith) ∙ ap (λ (x : ℕ). pick (ltb x n) (h x) 0) e

filled_fill : (room n : ℕ) (h : ℕ → ℕ) → n ≤ room → Filled n room h (fill room n h 0)
filled_fill room n h l = record { long = fill_long room n h 0; used = used; unused = λ i k. unused i k (lt? i room) }
  where
    here : (i : ℕ) → i < room → get_or (fill room n h 0) i 0 ≡ pick (ltb i n) (h i) 0
    here i k = let e : 0 + i ≡ i = omega arith in fill_at room n h 0 i k ∙ ap (λ (x : ℕ). pick (ltb x n) (h x) 0) e

    used : (i : ℕ) → i < n → get_or (fill room n h 0) i 0 ≡ h i
    used i k = here i (omega arith) ∙ simp (lt-ltb i n k)

    unused : (i : ℕ) → n ≤ i → Dec (i < room) → get_or (fill room n h 0) i 0 ≡ 0
    unused i k (yes x) = here i x ∙ simp (le-ltb i n k)
    unused i k (no x) = get_or-eq_default (fill room n h 0) 0 (rw (fill_long room n h 0) (let y : room ≤ i = omega arith in y))

-- The graph that shows a part of a plan.
abbrev graph_of : Plan → ℕ → ℕ → Graph
graph_of p n e =
    record {
      operations = n;
      edges = e;
      times = fill most_operations n (λ i. p.time (i + 1)) 0;
      from = fill most_edges e p.from 0;
      to = fill most_edges e p.to 0;
      mark = fill most_edges e p.mark 0;
      buffers = fill most_edges e p.buffers 0;
    }

shows_graph : (p : Plan) (n e : ℕ) → n ≤ most_operations → e ≤ most_edges → Shows p n e (graph_of p n e)
shows_graph p n e a b =
    record {
      operations = refl;
      edges = refl;
      times = filled_fill most_operations n (λ i. p.time (i + 1)) a;
      from = filled_fill most_edges e p.from b;
      to = filled_fill most_edges e p.to b;
      mark = filled_fill most_edges e p.mark b;
      buffers = filled_fill most_edges e p.buffers b;
    }

-- The reply to a file whose rows are all kept, and to one that is refused.
abbrev reply : (f : List ℕ) → Verdicts (look_rows f) → Result Graph Refusal
reply f (Ok tt, h) = Ok (graph_of (plan_of f) (operations_of f) (edges_of f))
reply f (Err r, h) = Err r

replied : (f : List ℕ) (v : Verdict) (h : Judged (look_rows f) v) → LookReply f (reply f (v, h))
replied f (Ok tt) (sound h) =
    let c = (sound_framed (sound_parts (frame_rows f) (graph_rows (plan_of f)) h).0).counted in
    looked h (shows_graph (plan_of f) (operations_of f) (edges_of f) c.operations.high_met c.edges.high_met)
replied f (Err r) (given h) = declined h

-- The reply, computed.
unfoldable pub look_of : List ℕ → Result Graph Refusal
look_of f = reply f (verdicts f)

pub look_total : (f : List ℕ) → LookReply f (look_of f)
unfolding look_of
look_total f = replied f (verdicts f).0 (verdicts f).1

-- And no other reply is allowed.
pub look_only : (f : List ℕ) (r : Result Graph Refusal) → LookReply f r → r ≡ look_of f
look_only f r h = look_determined f r (look_of f) h (look_total f)
