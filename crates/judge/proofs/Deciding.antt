-- Rows 5 to 9 are decided: each rule at a place by a test that computes, each row by a search for the lowest place, and so the verdict on a graph.
use mathlib.Core.Path.{◌≡◌, refl}
use mathlib.Core.Logic.{◌⊎◌, inl, inr}
use mathlib.Core.List.{List, [], ◌∷◌}
use Prim.Native.Nat.{◌+◌, ◌<◌, suc, zero, ℕ}
use native.Mathlib.Decide.{ℕ_discrete}
use native.Mathlib.Omega.{arith}
use lib.Dec.{T, eqb, eqb→eq, eqb_refl}
use Rattle.refusal.specs.Asking.{Ask, Judged, Kept, Lowest, given, sound, Verdict}
use Rattle.refusal.proofs.Asked.{given_here, judged_next, sound_none}
use Rattle.marked.specs.Net.{Proper}
use Rattle.marked.proofs.Decide.{le?, lt?, eq?, both?, given?, same?}
use Rattle.net.specs.Limits.{Within}
use Rattle.net.specs.Plan.{Plan}
use Rattle.net.specs.Graph.{net_of}
use Rattle.net.specs.Rules.{Alive, Allowed, Linked, Timely, Touched, Transition, graph_rows, row5, row6, row7, row8, row9}
use Rattle.net.proofs.Shapes.{plan_proper}
use Rattle.judge.proofs.Ways.{seek}
use Rattle.judge.proofs.Reaching.{alive?, joined?}
use Rattle.std.specs.Prelude.{Err, Ok}
use Rattle.refusal.specs.Numbers.{number_of}
use Rattle.refusal.specs.declared.Reason.{Reason}
use Rattle.refusal.specs.declared.Reason.TheVariants.{CircuitDead, EdgeWrong, NodeApart, NodeLoose, TimeWrong}

-- Limits.
abbrev pub within? : (low high n : ℕ) → Dec (Within low high n)
within? low high n = same? (λ x. record { low_met = x.0; high_met = x.1 }) (λ w. (w.low_met, w.high_met)) (both? (le? low n) (le? n high))

abbrev pub timely? : (p : Plan) (i : ℕ) → Dec (Timely p i)
timely? p i = within? 1 1000000 (p.time i)

abbrev pub allowed? : (p : Plan) (e : ℕ) → Dec (Allowed p e)
allowed? p e =
    same? (λ x. record { leaves = x.0; enters = x.1.0; marked = x.1.1.0; zero_byte = x.1.1.1 }) (λ a. (a.leaves, (a.enters, (a.marked, a.zero_byte))))
    (both? (le? (p.from e) p.operations) (both? (within? 1 (p.operations + 1) (p.to e)) (both? (le? (p.mark e) 1) (eq? (p.buffers e) 0))))

abbrev touched : (edges : ℕ) (end : ℕ → ℕ) (n : ℕ) → ((e : ℕ) × (e < edges) × T (eqb (end e) n)) ⊎ ((e : ℕ) → e < edges → T (eqb (end e) n) → ⊥) → Dec (Touched edges end n)
touched edges end n (inl s) = yes (record { edge = s.0; inside = s.1; there = eqb→eq (end s.0) n s.2 })
touched edges end n (inr a) = no (λ t. a t.edge t.inside (rw t.there (eqb_refl n)))

abbrev pub linked? : (p : Plan) (n : ℕ) → Dec (Linked p n)
linked? p n =
    same? (λ x. record { out = x.0; into = x.1 }) (λ l. (l.out, l.into))
    (both?
    (given? (le? n p.operations) (touched p.edges p.from n (seek (λ e. eqb (p.from e) n) p.edges)))
    (given? (le? 1 n) (touched p.edges p.to n (seek (λ e. eqb (p.to e) n) p.edges))))

-- What a search of a row finds: nothing, or the lowest place at which it is broken.
abbrev pub Searched : Ask → Type 0
Searched a = Kept a ⊎ ((x : ℕ) × Lowest a x)

-- The row below x is kept.
abbrev pub Below : Ask → ℕ → Type 0
Below a x = (y : ℕ) → y < x → a.Place y → a.Rule y

pub below_next : (a : Ask) (x : ℕ) → Below a x → (a.Place x → a.Rule x) → Below a (suc x)
below_next a x h r y l p = at (ℕ_discrete y x)
  where
    at : Dec (y ≡ x) → a.Rule y
    at (yes e) = rw e (r (rw e at p))
    at (no e) = h y (omega arith) p

pub broken_at : (a : Ask) (x : ℕ) → Below a x → ((a.Place x → a.Rule x) → ⊥) → Dec (a.Place x) → Lowest a x
broken_at a x h n (yes p) = record { place = p; broken = λ r. n (λ q. r); lower = h }
broken_at a x h n (no p) = absurd (n (λ q. absurd (p q)))

module _ (a : Ask) (place? : (x : ℕ) → Dec (a.Place x)) (rule? : (x : ℕ) → Dec (a.Place x → a.Rule x)) where
  abbrev try : (x : ℕ) → Below a x → (Below a (suc x) → Searched a) → Dec (a.Place x → a.Rule x) → Searched a
  try x h rest (yes r) = rest (below_next a x h r)
  try x h rest (no n) = inr (x, broken_at a x h n (place? x))

  -- A search of the places from x on, of which there are no more than `left`.
  abbrev pub search_from : (left x : ℕ) → Below a x → ((y : ℕ) → a.Place y → y < x + left) → Searched a
  search_from zero x h all = inl (λ y p. h y (omega (arith, all y p)) p)
  search_from (suc left) x h all = try x h (λ k. search_from left (suc x) k (λ y p. omega (arith, all y p))) (rule? x)

  abbrev pub searched : (n : ℕ) → ((y : ℕ) → a.Place y → y < n) → Searched a
  searched n all = search_from n 0 (λ y l p. absurd (omega arith)) (λ y p. omega (arith, all y p))

-- A verdict that some rows allow.
abbrev pub Verdicts : List Ask → Type 0
Verdicts rows = (v : Verdict) × Judged rows v

-- A row that has been searched, and what follows it where it is kept.
abbrev pub asks : (a : Ask) (k : Reason) → a.number ≡ number_of k → (rows : List Ask) → Searched a → (Kept a → Verdicts rows) → Verdicts (a ∷ rows)
asks a k e rows (inl h) rest = ((rest h).0, judged_next h (rest h).1)
asks a k e rows (inr s) rest = (Err (record { reason = k; place = s.0 }), given (given_here (record { reason = k; place = s.0 }) e s.1))

module _ (p : Plan) where
  abbrev late : Searched (row5 p)
  late = searched (row5 p) (λ i. within? 1 p.operations i) (λ i. given? (within? 1 p.operations i) (timely? p i)) (p.operations + 1) (λ i h. omega (arith, h))

  abbrev wrong : Searched (row6 p)
  wrong = searched (row6 p) (λ e. lt? e p.edges) (λ e. given? (lt? e p.edges) (allowed? p e)) p.edges (λ e h. h)

  abbrev bare : Searched (row7 p)
  bare = searched (row7 p) (λ n. le? n (p.operations + 1)) (λ n. given? (le? n (p.operations + 1)) (linked? p n)) (p.operations + 2) (λ n h. omega (arith, h))

  module _ (k : Kept (row6 p)) where
    pub nodes : (e : ℕ) → e < p.edges → (p.from e < p.operations + 2) × (p.to e < p.operations + 2)
    nodes e l = (omega (arith, (k e l).leaves), omega (arith, (k e l).enters))

    pub proper : Proper (net_of p)
    proper = plan_proper p (λ e l. ((k e l).leaves, (k e l).enters.high_met))

    abbrev apart : Searched (row8 p)
    apart = searched (row8 p) (λ n. le? n (p.operations + 1)) (λ n. given? (le? n (p.operations + 1)) (joined? p nodes n)) (p.operations + 2) (λ n h. omega (arith, h))

    abbrev alive_at : (t : ℕ) → Dec (Transition p t) → Dec (Transition p t → Alive p t)
    alive_at t (yes l) = given? (yes l) (alive? p proper t l)
    alive_at t (no l) = yes (λ h. absurd (l h))

    abbrev dead : Searched (row9 p)
    dead = searched (row9 p) (λ t. lt? t (net_of p).transitions) (λ t. alive_at t (lt? t (net_of p).transitions)) (net_of p).transitions (λ t h. h)

  -- The verdict, computed.
  abbrev pub graph_verdict : Verdicts (graph_rows p)
  graph_verdict =
      asks (row5 p) TimeWrong refl (row6 p ∷ row7 p ∷ row8 p ∷ row9 p ∷ []) late (λ k5.
      asks (row6 p) EdgeWrong refl (row7 p ∷ row8 p ∷ row9 p ∷ []) wrong (λ k6.
      asks (row7 p) NodeLoose refl (row8 p ∷ row9 p ∷ []) bare (λ k7.
      asks (row8 p) NodeApart refl (row9 p ∷ []) (apart k6) (λ k8.
      asks (row9 p) CircuitDead refl [] (dead k6) (λ k9. (Ok tt, sound sound_none))))))
