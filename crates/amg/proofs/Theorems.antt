-- What follows for the exported functions: files that differ only in labels get equal words and equal lent memory, so word and memory are determined; and the word can be taken apart again.
use mathlib.Core.Path.{◌≡◌, ap, subst, sym, ◌∙◌}
use mathlib.Core.List.{List}
use Prim.Native.Nat.{ℕ, ◌/◌, ◌%◌, ◌<◌, min}
use native.Mathlib.Omega.{arith}
use Rattle.refusal.specs.declared.Refusal.{Refusal}
use Rattle.file.specs.Labels.{SameButLabels}
use Rattle.file.proofs.Labels.{labels_refl}
use Rattle.reader.specs.declared.graph.Graph.{Graph}
use Rattle.reader.proofs.Labels.{look_label_blind}
use Rattle.stepping.proofs.Replies.{run_label_blind, start_label_blind, step_label_blind}
use Rattle.std.proofs.Common.{Result, Ok, Option, Some, None, lit<}
use Rattle.std.specs.Result.{result_err}
use Rattle.waiting.specs.Reply.{WaitReply}
use Rattle.waiting.proofs.Theorems.{wait_label_blind, wait_small}
use Rattle.bounds_graph.specs.declared.reply.Measures.{Measures}
use Rattle.bounds.proofs.Theorems.{bounds_label_blind}
use Rattle.report.proofs.Theorems.{report_label_blind}
use Rattle.amg.specs.Calls.{BoundsCall, LookCall, ReportCall, RunCall, StartCall, StepCall, ToldBy, WaitCall}
use Rattle.amg_word.specs.Numbers.{wait_count}
use Rattle.amg.specs.Tables.{Tables, shown_in, values_in}
use Rattle.refusal.specs.declared.Reason.{Reason}
use Rattle.refusal.specs.declared.Reason.TheVariants.{CircuitDead, CountsWrong, EdgeWrong, LengthWrong, MarkingUnreached, MarkingWrong, NodeApart, NodeLoose, RoomShort, TablesWrong as Table_row, TimeWrong, TrailerWrong, TransitionDisabled, TransitionUnknown}
use Rattle.refusal.specs.Numbers.{number_of, number_told, place_told}
use Rattle.amg_word.specs.Word.{most_count, packed, packed_of}

-- where two contracts allow one reply only, they allow one word only
same_word : {A : Type 0} {word_of : A → ℕ} {P Q : A → Type 0} {v w : ℕ} (s : ToldBy word_of P v) (t : ToldBy word_of Q w) → s.reply ≡ t.reply → v ≡ w
same_word {word_of = word_of} s t e = s.told ∙ ap word_of e ∙ sym t.told

-- Files that differ only in labels get equal words, and leave equal bytes and entries.
module _ (f g : List ℕ) (a : SameButLabels f g) where
  pub amg_look_label_blind : (b y z : Tables) (v w : ℕ) → LookCall f b v y → LookCall g b w z → (v ≡ w) × (y ≡ z)
  amg_look_label_blind b y z v w s t =
      let e = look_label_blind f g a s.reply t.reply s.allowed.0 t.allowed.0 in
      (same_word s t e, s.allowed.1 ∙ ap (λ (r : Result Graph Refusal). shown_in r b) e ∙ sym t.allowed.1)

  pub amg_start_label_blind : (m y z : List ℕ) (v w : ℕ) → StartCall f m v y → StartCall g m w z → (v ≡ w) × (y ≡ z)
  amg_start_label_blind m y z v w s t = let d = start_label_blind f g m y z s.reply t.reply a s.allowed t.allowed in (same_word s t d.0, d.1)

  pub amg_step_label_blind : (m y z : List ℕ) (n v w : ℕ) → StepCall f m n v y → StepCall g m n w z → (v ≡ w) × (y ≡ z)
  amg_step_label_blind m y z n v w s t = let d = step_label_blind f g m y z n s.reply t.reply a s.allowed t.allowed in (same_word s t d.0, d.1)

  pub amg_run_label_blind : (m list y z : List ℕ) (v w : ℕ) → RunCall f m list v y → RunCall g m list w z → (v ≡ w) × (y ≡ z)
  amg_run_label_blind m list y z v w s t = let d = run_label_blind f g m list y z s.reply t.reply a s.allowed t.allowed in (same_word s t d.0, d.1)

  pub amg_wait_label_blind : (m : List ℕ) (n v w : ℕ) → WaitCall f m n v → WaitCall g m n w → v ≡ w
  amg_wait_label_blind m n v w s t = same_word s t (wait_label_blind f g m n s.reply t.reply a s.allowed t.allowed)

  pub amg_bounds_label_blind : (m b y z c d : List ℕ) (v w : ℕ) → BoundsCall f m b v y c → BoundsCall g m b w z d → (v ≡ w) × (y ≡ z) × (c ≡ d)
  amg_bounds_label_blind m b y z c d v w s t =
      let e = bounds_label_blind f g m s.reply t.reply y z a s.allowed.0 t.allowed.0 in
      (same_word s t e.0, e.1, s.allowed.1 ∙ ap (λ (r : Result Measures Refusal). values_in r b) e.0 ∙ sym t.allowed.1)

  pub amg_report_label_blind : (m y z : List ℕ) (v w : ℕ) → ReportCall f m v y → ReportCall g m w z → (v ≡ w) × (y ≡ z)
  amg_report_label_blind m y z v w s t = let d = report_label_blind f g m s.reply t.reply y z a s.allowed t.allowed in (same_word s t d.0, d.1)

-- So of one file each word is determined, and every byte and entry that was lent.
module _ (f : List ℕ) where
  pub amg_look_determined : (b y z : Tables) (v w : ℕ) → LookCall f b v y → LookCall f b w z → (v ≡ w) × (y ≡ z)
  amg_look_determined = amg_look_label_blind f f (labels_refl f)

  pub amg_start_determined : (m y z : List ℕ) (v w : ℕ) → StartCall f m v y → StartCall f m w z → (v ≡ w) × (y ≡ z)
  amg_start_determined = amg_start_label_blind f f (labels_refl f)

  pub amg_step_determined : (m y z : List ℕ) (n v w : ℕ) → StepCall f m n v y → StepCall f m n w z → (v ≡ w) × (y ≡ z)
  amg_step_determined = amg_step_label_blind f f (labels_refl f)

  pub amg_run_determined : (m list y z : List ℕ) (v w : ℕ) → RunCall f m list v y → RunCall f m list w z → (v ≡ w) × (y ≡ z)
  amg_run_determined = amg_run_label_blind f f (labels_refl f)

  pub amg_wait_determined : (m : List ℕ) (n v w : ℕ) → WaitCall f m n v → WaitCall f m n w → v ≡ w
  amg_wait_determined = amg_wait_label_blind f f (labels_refl f)

  pub amg_bounds_determined : (m b y z c d : List ℕ) (v w : ℕ) → BoundsCall f m b v y c → BoundsCall f m b w z d → (v ≡ w) × (y ≡ z) × (c ≡ d)
  amg_bounds_determined = amg_bounds_label_blind f f (labels_refl f)

  pub amg_report_determined : (m y z : List ℕ) (v w : ℕ) → ReportCall f m v y → ReportCall f m w z → (v ≡ w) × (y ≡ z)
  amg_report_determined = amg_report_label_blind f f (labels_refl f)

-- Each number of the table takes one byte.
number_small : (k : Reason) → number_of k < 256
number_small LengthWrong = lit< tt
number_small TrailerWrong = lit< tt
number_small CountsWrong = lit< tt
number_small Table_row = lit< tt
number_small TimeWrong = lit< tt
number_small EdgeWrong = lit< tt
number_small NodeLoose = lit< tt
number_small NodeApart = lit< tt
number_small CircuitDead = lit< tt
number_small MarkingWrong = lit< tt
number_small MarkingUnreached = lit< tt
number_small TransitionUnknown = lit< tt
number_small TransitionDisabled = lit< tt
number_small RoomShort = lit< tt

told_small : (r : Option Refusal) → number_told r < 256
told_small None = lit< tt
told_small (Some r) = number_small r.reason

-- A word tells its number, its place and its count apart, whatever number of 8 bits and place of 16 bits it is made of.
module _ (k x count : ℕ) (small : k < 256) (near : x < 65536) where
  pub word_number_of : packed_of k x count % 256 ≡ k
  word_number_of = omega (arith, small)

  pub word_place_of : packed_of k x count / 256 % 65536 ≡ x
  word_place_of = omega (arith, small, near)

  pub word_count_of : packed_of k x count / 1099511627776 ≡ min count most_count
  word_count_of = omega (arith, small, near)

-- So the word of a reply tells them.
module _ (r : Option Refusal) (count : ℕ) (near : place_told r < 65536) where
  pub word_number : packed r count % 256 ≡ number_told r
  word_number = word_number_of (number_told r) (place_told r) count (told_small r) near

  pub word_place : packed r count / 256 % 65536 ≡ place_told r
  word_place = word_place_of (number_told r) (place_told r) count (told_small r) near

  pub word_count : packed r count / 1099511627776 ≡ min count most_count
  word_count = word_count_of (number_told r) (place_told r) count (told_small r) near

-- A wait's word tells the wait itself: it is never cut to the 24 bits.
pub amg_wait_exact : (f m : List ℕ) (n v w : ℕ) (c : WaitCall f m n v) → c.reply ≡ Ok w → v / 1099511627776 ≡ w
amg_wait_exact f m n v w c e =
    omega (arith, c.told, ap (λ (r : Result ℕ Refusal). packed (result_err r) (wait_count r)) e, wait_small f m n w (subst (WaitReply f m n) e c.allowed))
