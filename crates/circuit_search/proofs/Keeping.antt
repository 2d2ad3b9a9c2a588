-- The start of the search, and what its trail rests on.
use mathlib.Core.Path.{◌≡◌, refl, ◌∙◌}
use mathlib.Core.Logic.{◌≢◌}
use mathlib.Core.List.{List, []}
use Prim.Native.Nat.{◌<◌, ◌≤◌, ℕ}
use native.Mathlib.Omega.{arith}
use Rattle.marked.specs.Net.{Net}
use Rattle.circuit_tight.specs.helpers.Lists.{Next}
use Rattle.circuit_search.specs.helpers.Ways.{Search, Trace, Trail}
use Rattle.circuit_search.specs.helpers.Ways.Trail.{here, on}
use Rattle.circuit_search.specs.helpers.Ways.Trace.{start, step}

module _ {g : Net} {T : ℕ → Type 0} {root goal : ℕ} where
  -- the start
  pub begin :
      {M N A : ℕ → ℕ} → M root ≢ 0 → ((v : ℕ) → v ≢ root → M v ≡ 0) → ((q : ℕ) → q < g.places → T q → g.src q < g.transitions)
      → ((v : ℕ) → v < g.transitions → Next g T v 0 (A v)) → ((v : ℕ) → A v ≤ g.places) → goal ≢ root → Search g T root goal M N A root []
  begin {M} {N} {A} r m i z l f = record {
    trail = here;
    listed = λ v h k. (((z v h).fits k).1, ((z v h).fits k).2);
    tried = λ q h t k. absurd ((z (g.src q) (i q h t)).none q (omega arith) k t refl);
    dead = λ v n a d. absurd (n (m v d));
    done = λ v k. absurd (omega (arith, l v));
    free = m goal f;
    begun = r;
    stands = r;
    marks = tt;
    simple = (tt, tt);
  }

  -- what the trail rests on is kept
  pub trail_keep : {M N M2 N2 : ℕ → ℕ} {x : ℕ} {ts : List ℕ} → ((v : ℕ) → M v ≢ 0 → M2 v ≢ 0) → ((v : ℕ) → M v ≢ 0 → N2 v ≡ N v) → Trail g T root goal M N x ts → Trail g T root goal M2 N2 x ts
  trail_keep a b here = here
  trail_keep a b (on q t h k e o m n) = on q (trail_keep a b t) h k e o (a (g.dst q) m) (b (g.dst q) m ∙ n)

  pub trail_trace : {M N N2 : ℕ → ℕ} {x : ℕ} {ts : List ℕ} → ((v : ℕ) → M v ≢ 0 → N2 v ≡ N v) → Trail g T root goal M N x ts → Trace g T root goal N2 x ts
  trail_trace b here = start
  trail_trace {N2 = N2} b (on {ts = ts} q t h k e o m n) = let r : Trace g T root goal N2 (g.src q) ts = rw e (trail_trace b t) in step q r h k (b (g.dst q) m ∙ n)
