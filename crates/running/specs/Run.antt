-- A run: its entries one after the other, up to the first refused.
use Rattle.std.specs.Prelude.{List, [], ◌∷◌, suc, ℕ, Err, Ok}
use Rattle.refusal.specs.declared.Refusal.{Refusal}
use Rattle.marked.specs.Net.{Net}
use Rattle.firing.specs.Step.{Steps}
use Rattle.refusal.specs.Asking.{Verdict}

-- A run of a list: its entries one after the other, each from the bytes that the one before left, up to the first refused; how many fired,
-- how it ended, and the bytes after it.
pub data Runs (g : Net) : List ℕ → List ℕ → ℕ → Verdict → List ℕ → Type 0 where
  ends : {m : List ℕ} → Runs g m [] 0 (Ok tt) m
  goes : {m y z ts : List ℕ} {t k : ℕ} {x : Verdict} → Steps g m t (Ok tt) y → Runs g y ts k x z → Runs g m (t ∷ ts) (suc k) x z
  stops : {m z ts : List ℕ} {t : ℕ} {r : Refusal} → Steps g m t (Err r) z → Runs g m (t ∷ ts) 0 (Err r) z
