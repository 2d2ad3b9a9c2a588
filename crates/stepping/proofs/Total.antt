-- Every file and buffer have a reply of `start`. With `start_determined` there is just one.
use mathlib.Core.Path.{◌≡◌, ◌∙◌, ap, refl}
use mathlib.Core.List.{List, [], ◌∷◌}
use Prim.Native.Nat.{◌+◌, ◌<◌, suc, zero, ℕ}
use native.Mathlib.Decide.{ℕ_discrete}
use native.Mathlib.Omega.{arith}
use lib.ListN.{length}
use Rattle.refusal.specs.declared.Refusal.{Refusal}
use Rattle.refusal.proofs.Asked.{given_here, lowest_whole, sound_next, sound_none}
use Rattle.marked.specs.Net.{at}
use Rattle.net.specs.Plan.{Plan}
use Rattle.net.specs.Graph.{net_of, start_of}
use Rattle.reader.specs.Reply.{LookReply, shown}
use Rattle.reader.specs.Outcome.{passed, refused as stopped, unread}
use Rattle.reader.specs.declared.graph.Graph.{Graph}
use Rattle.reader.proofs.Total.{look_total, look_of}
use Rattle.stepping.specs.Replies.{AtStart, StartReply}
use Rattle.stepping.specs.Replies.StartReply.{refused, started}
use Rattle.std.specs.Prelude.{Err, Ok, Result}
use Rattle.refusal.specs.Asking.{Verdict}
use Rattle.refusal.specs.declared.Reason.TheVariants.{MarkingWrong}

-- The n values of h from i on.
abbrev listed : ℕ → (ℕ → ℕ) → ℕ → List ℕ
listed zero h i = []
listed (suc n) h i = h i ∷ listed n h (suc i)

listed_long : (n : ℕ) (h : ℕ → ℕ) (i : ℕ) → length (listed n h i) ≡ n
listed_long zero h i = refl
listed_long (suc n) h i = ap suc (listed_long n h (suc i))

listed_at : (n : ℕ) (h : ℕ → ℕ) (i j : ℕ) → j < n → at (listed n h i) j ≡ h (i + j)
listed_at zero h i j l = absurd (omega arith)
listed_at (suc n) h i zero l = let e : i ≡ i + 0 = omega arith in ap h e
listed_at (suc n) h i (suc j) l = let e : suc i + j ≡ i + suc j = omega arith in listed_at n h (suc i) j (omega arith) ∙ ap h e

-- The starting marking of a graph.
abbrev pub start_bytes : Plan → List ℕ
start_bytes g = listed (net_of g).places (start_of g) 0

pub at_start : (g : Plan) → AtStart g (start_bytes g)
at_start g =
    record {
      fits = listed_long (net_of g).places (start_of g) 0;
      tokens = λ p l. let e : 0 + p ≡ p = omega arith in listed_at (net_of g).places (start_of g) 0 p l ∙ ap (start_of g) e;
    }

-- A reply, and the bytes that it leaves.
pub record Replied (f m : List ℕ) : Type 0 where
  pub reply : Verdict
  pub bytes : List ℕ
  pub allowed : StartReply f m reply bytes

module _ (f m : List ℕ) where
  fitting : {g : Graph} → LookReply f (Ok g) → Dec (length m ≡ (net_of (shown g)).places) → Replied f m
  fitting {g} look (yes h) =
      record { reply = Ok tt; bytes = start_bytes (shown g); allowed = started (passed look (sound_next (λ x p. h) sound_none)) (at_start (shown g)) }
  fitting look (no h) =
      let r : Refusal = record { reason = MarkingWrong; place = 0 } in
      record { reply = Err r; bytes = m; allowed = refused (stopped look (given_here r refl (lowest_whole h))) }

  replied : (l : Result Graph Refusal) → LookReply f l → Replied f m
  replied (Ok g) look = fitting look (ℕ_discrete (length m) (net_of (shown g)).places)
  replied (Err r) look = record { reply = Err r; bytes = m; allowed = refused (unread look) }

pub start_total : (f m : List ℕ) → Replied f m
start_total f m = replied f m (look_of f) (look_total f)
