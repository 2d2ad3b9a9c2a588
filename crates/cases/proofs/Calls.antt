-- Tests of markings of an accepted graph: the start, a marking that no firings lead to, and a step's 13.
use mathlib.Core.Path.{◌≡◌, refl}
use mathlib.Core.List.{List, [], ◌++◌, ◌∷◌}
use Prim.Native.Nat.{◌+◌, suc, zero, ℕ}
use lib.ListN.{length, replicate}
use Rattle.std.proofs.Common.{Err}
use Rattle.refusal.specs.Asking.{Given, Sound}
use Rattle.refusal.specs.Numbers.{number_of}
use Rattle.refusal.specs.declared.Reason.{Reason}
use Rattle.refusal.specs.declared.Reason.TheVariants.{MarkingUnreached, TransitionDisabled}
use Rattle.refusal.proofs.Numbers.{number_injective}
use Rattle.refusal.proofs.Asked.{given_here, given_next, lowest_whole, sound_next, sound_none}
use Rattle.marked.specs.Net.{Net, at}
use Rattle.marked.specs.Distance.{Distances}
use Rattle.marked.proofs.Decide.{both?, each?, eq?, given?, le?, lt?, same?}
use Rattle.marked.proofs.Reach.{reach}
use Rattle.net.specs.Graph.{net_of, start_of}
use Rattle.net.specs.Good.{Good}
use Rattle.net.proofs.Shapes.{wired_proper}
use Rattle.reader.specs.Reply.{shown}
use Rattle.reader.specs.declared.graph.Graph.{Graph}
use Rattle.accepting.specs.Rows.{Marking, Reachable, run_rows, start_rows, wait_rows}
use Rattle.firing.specs.Step.{Steps, waits}
use Rattle.marked.specs.Firing.{LowestEmpty}
use Rattle.stepping.specs.Replies.{AtStart}
use Rattle.cases.specs.Said.{by}
use Rattle.cases.proofs.Trying.{Tried, and, so, then, try}
use Rattle.cases.proofs.Searching.{Known, number, walks}
use Rattle.cases.proofs.Waits.{distances?}

-- The tokens of the first k places, as bytes.
abbrev tokens_of : (ℕ → ℕ) → ℕ → List ℕ
tokens_of m zero = []
tokens_of m (suc k) = tokens_of m k ++ (m k ∷ [])

-- The rows that the calls ask of an accepted graph.
module _ (g : Graph) (ok : Good g.operations g.edges g.times g.from g.to g.mark g.buffers) where
  abbrev net : Net
  net = net_of (shown g)

  abbrev start : ℕ → ℕ
  start = start_of (shown g)

  -- The marking that start writes, into a buffer of zeros.
  abbrev pub began : List ℕ
  began = tokens_of start net.places

  abbrev pub zeros : List ℕ
  zeros = replicate net.places 0

  abbrev pub begun? : Tried (Sound (start_rows zeros (shown g)) × AtStart (shown g) began)
  begun? =
      so (λ x. (sound_next (λ y e. x.0) sound_none, record { fits = x.1.0; tokens = x.1.1 }))
      (try (both? (eq? (length zeros) net.places) (both? (eq? (length began) net.places) (each? (λ p. eq? (at began p) (start p)) net.places))))

  module _ (m : List ℕ) where
    abbrev marking? : Dec (Marking (shown g) m)
    marking? =
        same? (λ x. record { fits = x.0; single = x.1 }) (λ k. (k.fits, k.single)) (both? (eq? (length m) net.places) (each? (λ p. le? (at m p) 1) net.places))

    -- By the distances under the start and under m.
    abbrev reached_by : (d e : Known) → Distances net start 0 (number d) → Distances net (at m) 0 (number e) → Dec (Reachable (shown g) m)
    reached_by d e x y =
        let r = reach net start (at m) (number d) (number e) (wired_proper ok.wired) x y ok.live in
        same? r.1 r.0
        (each? (λ p. eq? (at m p + number e (net.src p) + number d (net.dst p)) (start p + number d (net.src p) + number e (net.dst p))) net.places)

    abbrev reached? : Tried (Dec (Reachable (shown g) m))
    reached? =
        let d = walks net start 0 in
        let e = walks net (at m) 0 in
        so (λ x. reached_by d e x.0 x.1) (and (distances? net start 0 d) (distances? net (at m) 0 e))

    -- A marking that no firings lead to is refused by 11: by step and run, and by wait.
    pub unreached : Marking (shown g) m → (Reachable (shown g) m → ⊥) → Given (run_rows m (shown g)) (by MarkingUnreached 0) × ((t : ℕ) → Given (wait_rows m t (shown g)) (by MarkingUnreached 0))
    unreached x y = (given_next (λ _ _. x) (given_here (by MarkingUnreached 0) refl (lowest_whole y)), λ t. given_next (λ _ _. x) (given_here (by MarkingUnreached 0) refl (lowest_whole y)))

    abbrev pub unreached? : (k : Reason) (x : ℕ) → Tried (Given (run_rows m (shown g)) (by k x) × ((t : ℕ) → Given (wait_rows m t (shown g)) (by k x)))
    unreached? k x =
        then reached? (λ r. so (λ y. let e : k ≡ MarkingUnreached = number_injective y.0 in rw (e, y.1.0) (unreached y.1.1.0 y.1.1.1))
        (and (try (eq? (number_of k) 11)) (and (try (eq? x 0)) (and (try marking?) (try (given? r (no (λ z. z))))))))

    -- p is the lowest empty input place of t.
    abbrev lowest? : (t p : ℕ) → Tried (LowestEmpty net (at m) t p)
    lowest? t p =
        so (λ x. record { place = x.0; input = x.1.0; empty = x.1.1.0; lowest = x.1.1.1 })
        (try (both? (lt? p net.places) (both? (eq? (net.dst p) t) (both? (eq? (at m p) 0) (each? (λ q. given? (eq? (net.dst q) t) (le? 1 (at m q))) p)))))

    -- The number of a transition that is not enabled.
    abbrev waits? : (t : ℕ) (k : Reason) (x : ℕ) → Tried (Steps net m t (Err (by k x)) m)
    waits? t k x = so (λ y. let e : k ≡ TransitionDisabled = number_injective y.0 in rw e (waits y.1.0 y.1.1)) (and (try (eq? (number_of k) 13)) (and (try (lt? t net.transitions)) (lowest? t x)))

    -- A step that is refused, from an accepted marking.
    abbrev pub step? : (t : ℕ) (k : Reason) (x : ℕ) → Tried (Sound (run_rows m (shown g)) × Steps net m t (Err (by k x)) m)
    step? t k x =
        then reached? (λ r. and (so (λ y. sound_next (λ _ _. y.0) (sound_next (λ _ _. y.1) sound_none)) (and (try marking?) (try r))) (waits? t k x))
