-- The net of the listed places agrees with the computational graph on its tight places, so they have the same ways.
use mathlib.Core.Path.{◌≡◌, refl, sym, ◌∙◌, subst}
use mathlib.Core.Logic.{◌≢◌}
use mathlib.Core.List.{List, ◌∷◌}
use Prim.Native.Nat.{◌%◌, ◌*◌, ◌+◌, ◌-◌, ◌/◌, ◌<◌, ◌≤◌, ℕ}
use native.Mathlib.Omega.{arith}
use native.Mathlib.Decide.{dec_lt, ℕ_discrete}
use lib.ListN.{length}
use Rattle.marked.specs.Lists.{All, Distinct}
use Rattle.marked.specs.Net.{Net, Proper, Walk, at, go, stop}
use Rattle.marked.specs.Circuits.{froms}
use Rattle.net.specs.Limits.{most_places, most_transitions}
use Rattle.net.specs.Ends.{dst_of, src_of}
use Rattle.fraction.specs.helpers.Loaded.{Loaded}
use Rattle.net.specs.Good.{Wired}
use Rattle.net.proofs.Shapes.{dst_back, dst_empty, dst_full, dst_op, src_empty, src_full, src_op}
use Rattle.circuit_tight.specs.helpers.Lists.{Headed, Threaded, Listed, Listing, Next, TightIn, drawn}
use Rattle.circuit_search.specs.helpers.Ways.{Cut, First, Rival}

-- Places of T in g are places of U in h, with the same ends.
pub record Carries (g h : Net) (T U : ℕ → Type 0) : Type 0 where
  pub place : (q : ℕ) → q < g.places → T q → q < h.places
  pub fits : (q : ℕ) → q < g.places → T q → U q
  pub leaves : (q : ℕ) → q < g.places → T q → g.src q ≡ h.src q
  pub enters : (q : ℕ) → q < g.places → T q → g.dst q ≡ h.dst q

module _ {g h : Net} {T U : ℕ → Type 0} (m : Carries g h T U) where
  walk_move : {a b : ℕ} {ps : List ℕ} → Walk g a b ps → All T ps → Walk h a b ps
  walk_move stop t = stop
  walk_move (go {b = b} {ps = ps} p i w) t =
      let v : Walk h (h.dst p) b ps = rw (m.enters p i t.0) at (walk_move w t.1) in
      rw (m.leaves p i t.0) (go p (m.place p i t.0) v)

  all_move : {a b : ℕ} {ps : List ℕ} → Walk g a b ps → All T ps → All U ps
  all_move stop t = tt
  all_move (go p i w) t = (m.fits p i t.0, all_move w t.1)

  froms_move : {a b : ℕ} {ps : List ℕ} → Walk g a b ps → All T ps → froms g ps ≡ froms h ps
  froms_move stop t = refl
  froms_move (go p i w) t = rw (m.leaves p i t.0, froms_move w t.1)

  pub rival_move : {root goal : ℕ} {qs : List ℕ} → Rival g T root goal qs → Rival h U root goal qs
  rival_move {goal = goal} r = record {
    walk = walk_move r.walk r.tight;
    tight = all_move r.walk r.tight;
    simple = subst (λ (l : List ℕ). Distinct (goal ∷ l)) (froms_move r.walk r.tight) r.simple;
  }

module _ {g h : Net} {T U : ℕ → Type 0} (m : Carries g h T U) (n : Carries h g U T) {root goal : ℕ} where
  pub first_move : {ts : List ℕ} → First g T root goal ts → First h U root goal ts
  first_move f = record { rival = rival_move m f.rival; first = λ qs r. f.first qs (rival_move n r) }

  pub cut_move : Cut g T root goal → Cut h U root goal
  cut_move c = λ qs r. c qs (rival_move n r)

-- No place of the computational graph leads to where it leaves.
pub ends_apart : {n e : ℕ} {f t : List ℕ} → Wired n e f t → (p : ℕ) → p < 3 * n + 2 * e → src_of n (at f) (at t) p ≢ dst_of n (at f) (at t) p
ends_apart {n} {e} {f} {t} ok p h z = elim (dec_lt p (3 * n)) [
  | yes k ↦ elim (ℕ_discrete (p % 3) 2) [
    | yes j ↦ omega (arith, src_op n (at f) (at t) p k, dst_back n (at f) (at t) p k j)
    | no j ↦ omega (arith, src_op n (at f) (at t) p k, dst_op n (at f) (at t) p k j)
  ]
  | no k ↦ elim (ℕ_discrete ((p - 3 * n) % 2) 0) [
    | yes j ↦ omega (arith, src_full n (at f) (at t) p (omega arith) j, dst_full n (at f) (at t) p (omega arith) j, ok.enters ((p - 3 * n) / 2) (omega arith))
    | no j ↦ omega (arith, src_empty n (at f) (at t) p (omega arith) j, dst_empty n (at f) (at t) p (omega arith) j, ok.enters ((p - 3 * n) / 2) (omega arith))
  ]
]

module _ {g : Loaded} {a b : ℕ} {d head next src dst : List ℕ} (l : Listing g a b d 0 head next src dst) where
  pub onto : Carries (drawn g.net.transitions g.net.places src dst) g.net (Listed dst) (TightIn g a b d)
  onto = record {
    place = λ q h t. h;
    fits = λ q h t. (l.tight q (omega arith) h t).0;
    leaves = λ q h t. (l.tight q (omega arith) h t).1;
    enters = λ q h t. (l.tight q (omega arith) h t).2;
  }

  pub into : Carries g.net (drawn g.net.transitions g.net.places src dst) (TightIn g a b d) (Listed dst)
  into = record {
    place = λ q h t. h;
    fits = λ q h t. l.listed q (omega arith) h t;
    leaves = λ q h t. sym (l.tight q (omega arith) h (l.listed q (omega arith) h t)).1;
    enters = λ q h t. sym (l.tight q (omega arith) h (l.listed q (omega arith) h t)).2;
  }

  next_drawn : {v lo q : ℕ} → Next g.net (TightIn g a b d) v lo q → Next (drawn g.net.transitions g.net.places src dst) (Listed dst) v lo q
  next_drawn {v} {lo} {q} n = record {
    most = n.most;
    fits = λ h. let o = n.fits h in (o.0, into.fits q h o.1, sym (into.leaves q h o.1) ∙ o.2);
    none = λ p i j t e. let h : p < g.net.places = omega (arith, n.most) in n.none p i j (onto.fits p h t) (sym (onto.leaves p h t) ∙ e);
  }

  pub headed : length head ≡ most_transitions → Headed g.net.transitions g.net.places head src dst
  headed o = record { heads = λ v h. next_drawn (l.heads v h); low = l.low; long = o }

  pub threaded :
      Proper g.net → g.net.transitions ≤ most_transitions → g.net.places ≤ most_places → ((p : ℕ) → p < g.net.places → g.net.src p ≢ g.net.dst p)
      → Threaded g.net.transitions g.net.places next src dst
  threaded ok few many far = record {
    few = few;
    many = many;
    nexts = λ q h t. subst
        (λ (v : ℕ). Next (drawn g.net.transitions g.net.places src dst) (Listed dst) v (q + 1) (at next q))
        (sym (onto.leaves q h t))
        (next_drawn (l.nexts q (omega arith) h (onto.fits q h t)));
    leaves = λ q h t. omega (arith, onto.leaves q h t, ok.src_in q h);
    enters = λ q h t. omega (arith, onto.enters q h t, ok.dst_in q h);
    apart = λ q h t e. far q h (sym (onto.leaves q h t) ∙ e ∙ onto.enters q h t);
  }
