-- Back along the notes from the end of the way to its root: counting, then writing.
use mathlib.Core.Path.{◌≡◌, ap, refl, sym, ◌∙◌, subst}
use mathlib.Core.Logic.{◌≢◌}
use mathlib.Core.List.{List, [], ◌++◌, ◌∷◌, append_assoc, append-nil}
use Prim.Native.Nat.{◌+◌, ◌<◌, ◌≤◌, ℕ}
use native.Mathlib.Omega.{arith}
use lib.ListN.{length, length-append}
use Rattle.marked.specs.Lists.{All, Distinct}
use Rattle.marked.specs.Net.{Net, Walk, at, go, stop}
use Rattle.marked.specs.Circuits.{froms}
use Rattle.marked.proofs.Entries.{distinct_cross}
use Rattle.marked.proofs.Pigeonhole.{pigeonhole}
use Rattle.marked.proofs.Walks.{ends_same, froms_append, join, length_froms, part, starts, stays}
use Rattle.circuit_tight.specs.helpers.Lists.{Threaded, Listed, drawn}
use Rattle.circuit_search.specs.helpers.Ways.{FirstNoted, Rival, Trace}
use Rattle.circuit_search.specs.helpers.Ways.Trace.{start, step}

module _ {g : Net} {T : ℕ → Type 0} where
  -- Where places of T leave from transitions, a way of them does.
  froms_tight : {a b : ℕ} {ps : List ℕ} → ((q : ℕ) → q < g.places → T q → g.src q < g.transitions) → Walk g a b ps → All T ps → All (◌< g.transitions) (froms g ps)
  froms_tight f stop t = tt
  froms_tight f (go q h w) t = (f q h t.0, froms_tight f w t.1)

  module _ {root goal : ℕ} {N : ℕ → ℕ} where
    trace_walk : {x : ℕ} {ts : List ℕ} → Trace g T root goal N x ts → Walk g root x ts
    trace_walk start = stop
    trace_walk (step q t h i n) = join (trace_walk t) (go q h stop)

-- The last place of a trace.
pub record Last (g : Net) (T : ℕ → Type 0) (root goal : ℕ) (N : ℕ → ℕ) (x : ℕ) (ts : List ℕ) : Type 0 where
  pub place : ℕ
  pub rest : List ℕ
  pub inside : place < g.places
  pub note : N x ≡ place
  pub parts : ts ≡ rest ++ (place ∷ [])
  pub trace : Trace g T root goal N (g.src place) rest

module _ {g : Net} {T : ℕ → Type 0} {root goal : ℕ} {N : ℕ → ℕ} where
  pub last : {x : ℕ} {ts : List ℕ} → Trace g T root goal N x ts → x ≢ root → Last g T root goal N x ts
  last start f = absurd (f refl)
  last (step {ts = ts} q t h i n) f = record { place = q; rest = ts; inside = h; note = n; parts = refl; trace = t }

  -- At the root nothing is left.
  at_root : {x : ℕ} (rest done : List ℕ) → Trace g T root goal N x rest → Rival g T root goal (rest ++ done) → root ≢ goal → x ≡ root → rest ≡ []
  at_root [] done t r f e = refl
  at_root (p ∷ rest) [] t r f e =
      let u = part (p ∷ rest) [] r.walk in
      absurd (f (sym e ∙ ends_same (trace_walk t) u.1 ∙ stays u.2))
  at_root {x} (p ∷ rest) (q ∷ done) t r f e =
      let u = part (p ∷ rest) (q ∷ done) r.walk in
      let z : g.src q ≡ x = starts u.2 ∙ ends_same u.1 (trace_walk t) in
      let y : g.src p ≡ root = starts (trace_walk t) in
      let d : Distinct (froms g (p ∷ rest) ++ froms g (q ∷ done)) = subst (λ (l : List ℕ). Distinct l) (froms_append g (p ∷ rest) (q ∷ done)) r.simple.1 in
      let c = distinct_cross (froms g (p ∷ rest)) (froms g (q ∷ done)) d in
      absurd (c.0.0 (z ∙ e ∙ sym y))

-- The trace from x back to root is still to come; what lies behind x is done.
pub record Climb (nt np : ℕ) (src dst : List ℕ) (root goal : ℕ) (via : List ℕ) (x : ℕ) : Type 0 where
  pub begins : root < nt
  pub noted : FirstNoted (drawn nt np src dst) (Listed dst) root goal (at via)
  pub rest : List ℕ
  pub done : List ℕ
  pub trace : Trace (drawn nt np src dst) (Listed dst) root goal (at via) x rest
  pub parts : noted.way ≡ rest ++ done

abbrev pub climb_start : {nt np : ℕ} {src dst : List ℕ} {root goal : ℕ} (via : List ℕ) → root < nt → FirstNoted (drawn nt np src dst) (Listed dst) root goal (at via) → Climb nt np src dst root goal via goal
climb_start via l n = record { begins = l; noted = n; rest = n.way; done = []; trace = n.trace; parts = sym (append-nil n.way) }

-- One place back.
abbrev pub climb_on :
    {nt np : ℕ} {src dst : List ℕ} {root goal : ℕ} {via : List ℕ} {x r y : ℕ} → (c : Climb nt np src dst root goal via x) → x ≢ root → r ≡ at via x → y ≡ at src r
    → Climb nt np src dst root goal via y
climb_on {nt} {np} {src} {dst} {root} {goal} {via} {x} {r} {y} c f e ey = record {
  begins = c.begins;
  noted = c.noted;
  rest = (last c.trace f).rest;
  done = r ∷ c.done;
  trace = subst
      (λ (u : ℕ). Trace (drawn nt np src dst) (Listed dst) root goal (at via) u (last c.trace f).rest)
      (ap (at src) (sym (e ∙ (last c.trace f).note)) ∙ sym ey)
      (last c.trace f).trace;
  parts =
      c.parts
      ∙ ap (λ (u : List ℕ). u ++ c.done) (last c.trace f).parts
      ∙ append_assoc (last c.trace f).rest ((last c.trace f).place ∷ []) c.done
      ∙ ap (λ (u : ℕ). (last c.trace f).rest ++ (u ∷ c.done)) (sym (e ∙ (last c.trace f).note));
}

module _ {nt np : ℕ} {next src dst : List ℕ} (o : Threaded nt np next src dst) {root goal : ℕ} {via : List ℕ} {x : ℕ} (c : Climb nt np src dst root goal via x) where
  trace_in : {y : ℕ} {ts : List ℕ} → Trace (drawn nt np src dst) (Listed dst) root goal (at via) y ts → y < nt
  trace_in start = c.begins
  trace_in (step q t h i m) = o.enters q h i

  pub climb_in : x < nt
  climb_in = trace_in c.trace

  -- A way visits each transition once.
  pub way_short : 1 + length c.noted.way ≤ nt
  way_short =
      let r = c.noted.first.rival in
      let w = c.noted.way in
      omega (arith, pigeonhole nt (goal ∷ froms (drawn nt np src dst) w) (trace_in c.noted.trace, froms_tight o.leaves r.walk r.tight) r.simple, length_froms (drawn nt np src dst) w)

  pub climb_place : {r : ℕ} → x ≢ root → r ≡ at via x → r < np
  climb_place f e = let q = last c.trace f in omega (arith, q.note, q.inside)

  -- As long as the root is not reached there is more,
  pub climb_more : x ≢ root → 1 + length c.done < nt
  climb_more f =
      let q = last c.trace f in
      let e : length c.rest ≡ length q.rest + 1 = ap length q.parts ∙ simp length-append in
      let w : length c.noted.way ≡ length c.rest + length c.done = ap length c.parts ∙ simp length-append in
      omega (arith, way_short)

  -- so a count of the whole way has not come down to 1;
  pub climb_left : {k : ℕ} → k + length c.done ≡ 1 + length c.noted.way → x ≢ root → (2 ≤ k) × (k ≤ nt)
  climb_left {k} h f =
      let q = last c.trace f in
      let e : length c.rest ≡ length q.rest + 1 = ap length q.parts ∙ simp length-append in
      let w : length c.noted.way ≡ length c.rest + length c.done = ap length c.parts ∙ simp length-append in
      (omega arith, omega (arith, way_short))

  -- and there all is done.
  pub climb_end : root ≢ goal → x ≡ root → c.noted.way ≡ c.done
  climb_end f e =
      let r : Rival (drawn nt np src dst) (Listed dst) root goal (c.rest ++ c.done) = rw c.parts at c.noted.first.rival in
      let z : c.rest ≡ [] = at_root c.rest c.done c.trace r f e in
      c.parts ∙ ap (λ (u : List ℕ). u ++ c.done) z
