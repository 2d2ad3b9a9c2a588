-- Tests of a report: its numbers, and its text, which every buffer with room is given.
use mathlib.Core.Path.{◌≡◌, ◌∙◌, ap, refl, sym}
use mathlib.Core.List.{List, [], ◌++◌, ◌∷◌}
use Prim.Native.Nat.{◌+◌, ◌≤◌, ℕ}
use native.Mathlib.Omega.{arith}
use lib.ListN.{drop, length}
use lib.Seq.{sets}
use Rattle.marked.specs.Net.{at}
use Rattle.marked.proofs.Decide.{both?, eq?, le?, same?}
use Rattle.net.specs.Plan.{Plan}
use Rattle.paths_finish.specs.Longest.{DataSink, Sink, TBIO, TT, effort}
use Rattle.pen_put.specs.Lines.{Put}
use Rattle.bounds_graph.specs.declared.reply.Measures.{Measures}
use Rattle.report_graph.specs.Numbers.{Numbers}
use Rattle.report.proofs.Demand.{sets_front}
use Rattle.cases.proofs.Trying.{Tried, and, so, try}
use Rattle.cases.proofs.Longest.{sum?}
use Rattle.cases.proofs.Bounds.{chosen_at?, tbo?}
use Rattle.cases.proofs.Waits.{the_waits?}

-- Two lists, entry by entry.
abbrev pub lists? : (xs ys : List ℕ) → Dec (xs ≡ ys)
lists? [] [] = yes refl
lists? [] (y ∷ ys) = no (λ e. let z : ◌≡◌ {A = ℕ} 0 1 = cc in absurd (omega arith))
lists? (x ∷ xs) [] = no (λ e. let z : ◌≡◌ {A = ℕ} 0 1 = cc in absurd (omega arith))
lists? (x ∷ xs) (y ∷ ys) = same? (λ h. let a = h.0 in let b = h.1 in cc) (λ e. (cc, cc)) (both? (eq? x y) (lists? xs ys))

-- A text at the beginning of a buffer that has room.
pub text_put : (before text : List ℕ) {t : List ℕ} → t ≡ text → length text ≤ length before → Put before 0 t (text ++ drop (length text) before) (length text)
text_put before text e h = record { place = omega (arith, ap length e); stands = sym (sets_front text before h) ∙ ap (sets before 0) (sym e) }

module _ (g : Plan) where
  -- TBIO and TT,
  abbrev pub tbio? : (r : ℕ) → Tried (TBIO g r)
  tbio? r = sum? g (DataSink g) (λ u. eq? u (g.operations + 1)) r

  abbrev pub tt? : (r : ℕ) → Tried (TT g r)
  tt? r = sum? g (Sink g) (λ u. le? (g.operations + 1) u) r

  -- and all numbers of a report.
  abbrev pub numbers? : (v : Measures) (ring waits : List ℕ) → Tried (Numbers g v ring (at waits))
  numbers? v ring waits =
      so (λ x. record { tbo = x.0; tbio = x.1.0; tt = x.1.1.0; tce = x.1.1.1.0; circuit = x.1.1.1.1.0; waits = x.1.1.1.1.1 })
      (and (tbo? g v.numerator v.denominator)
      (and (tbio? v.tbio)
      (and (tt? v.tt) (and (try (eq? v.tce (effort g))) (and (chosen_at? g v.numerator v.denominator ring) (the_waits? g waits))))))
