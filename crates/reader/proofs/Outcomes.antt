-- One outcome for a file and its rows, whatever the labels: what every call above look rests its own theorems on.
use Prim.Native.Nat.{ℕ}
use mathlib.Core.Path.{◌≡◌, ap, subst}
use mathlib.Core.List.{List}
use native.Mathlib.Omega.{arith}
use Rattle.refusal.specs.Asking.{Ask, Given}
use Rattle.refusal.specs.declared.Refusal.{Refusal}
use Rattle.refusal.proofs.Determined.{given_unique, sound_not_given}
use Rattle.net.specs.Plan.{Plan}
use Rattle.file.specs.Labels.{SameButLabels}
use Rattle.reader.specs.Reply.{LookReply, shown}
use Rattle.reader.specs.Outcome.{Ends, Outcome, accepted, passed, refusal, refused, unread}
use Rattle.reader.specs.declared.graph.Graph.{Graph}
use Rattle.reader.proofs.Determined.{look_determined}
use Rattle.reader.proofs.Labels.{look_carries}
use Rattle.std.specs.Prelude.{Err, Ok}

-- look accepts and refuses no file
never : {A : Type 0} {f : List ℕ} {g : Graph} {r : Refusal} → LookReply f (Ok g) → LookReply f (Err r) → A
never {f} {g} {r} p q = let z = look_determined f (Ok g) (Err r) p q in cc

module _ (f : List ℕ) (further : Plan → List Ask) where
  one : {g h : Graph} → LookReply f (Ok g) → LookReply f (Ok h) → g ≡ h
  one {g} {h} p q = let z = look_determined f (Ok g) (Ok h) p q in cc

  -- a refusal of one reply's graph is one of the other's
  carry : {r : Refusal} {g h : Graph} → LookReply f (Ok g) → LookReply f (Ok h) → Given (further (shown g)) r → Given (further (shown h)) r
  carry {r} p q h = subst (λ (z : Graph). Given (further (shown z)) r) (one p q) h

  -- Two outcomes of one file coincide.
  pub outcome_determined : {o u : Outcome} → Ends f further o → Ends f further u → o ≡ u
  outcome_determined (unread {r = r} p) (unread {r = s} q) = let z = look_determined f (Err r) (Err s) p q in cc
  outcome_determined (unread p) (refused q h) = never q p
  outcome_determined (unread p) (passed q h) = never q p
  outcome_determined (refused p g) (unread q) = never p q
  outcome_determined (refused p g) (refused q h) = ap (λ (x : Refusal). refusal x) (given_unique (carry p q g) h)
  outcome_determined (refused p g) (passed q h) = absurd (sound_not_given h (carry p q g))
  outcome_determined (passed p h) (unread q) = never p q
  outcome_determined (passed p h) (refused q g) = absurd (sound_not_given h (carry q p g))
  outcome_determined (passed p h) (passed q k) = ap (λ (x : Graph). accepted x) (one p q)

-- An outcome of a file is one of each file that differs only in labels,
pub outcome_carries : {f g : List ℕ} {further : Plan → List Ask} {o : Outcome} → SameButLabels f g → Ends f further o → Ends g further o
outcome_carries {f} {g} s (unread p) = unread (look_carries f g s _ p)
outcome_carries {f} {g} s (refused p h) = refused (look_carries f g s _ p) h
outcome_carries {f} {g} s (passed p h) = passed (look_carries f g s _ p) h

-- so their outcomes are equal.
pub outcome_label_blind : {f g : List ℕ} {further : Plan → List Ask} {o u : Outcome} → SameButLabels f g → Ends f further o → Ends g further u → o ≡ u
outcome_label_blind {g} {further} s p q = outcome_determined g further (outcome_carries s p) q

-- No outcome is accepted and refused, and equal outcomes hold one graph, or one refusal.
pub accepted_not_refused : {A : Type 0} {g : Graph} {r : Refusal} → accepted g ≡ refusal r → A
accepted_not_refused e = let w : ◌≡◌ {A = ℕ} 0 1 = cc in absurd (omega arith)

pub accepted_same : {g h : Graph} → accepted g ≡ accepted h → g ≡ h
accepted_same e = cc

pub refusal_same : {r s : Refusal} → refusal r ≡ refusal s → r ≡ s
refusal_same e = cc
