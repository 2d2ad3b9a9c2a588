-- Raises make sweeps, and sweeps follow each other.
use mathlib.Core.Path.{◌≡◌, refl, ◌∙◌}
use mathlib.Core.Logic.{◌⊎◌, inl, inr}
use mathlib.Core.List.{List}
use Prim.Native.Nat.{◌*◌, ◌+◌, ◌-◌, ◌<◌, ◌≤◌, ℕ}
use native.Mathlib.Omega.{arith}
use native.Mathlib.Decide.{ℕ_discrete}
use lib.ListN.{get_or, length, length-set, set}
use lib.Seq.{get_or-set_same, get_or-set_other}
use Rattle.std.specs.Prelude.{Option, None, Some}
use Rattle.std.specs.Option.{option_or}
use Rattle.marked.specs.Net.{Net, at}
use Rattle.net.specs.Graph.{RunsFrom}
use Rattle.tbo_sweep.specs.helpers.Raises.{Lift, NoRise, Raised, Room, SweptOver}
use Rattle.tbo_sweep.specs.helpers.Raises.Lifts.{more, none}
use Rattle.tbo_sweep.specs.helpers.Raises.Raised.{kept, raised}
use Rattle.tbo_sweep.proofs.Lifting.{lifts_trans, lifts_up}

-- a raise leaves room
pub room_raised : {s t p up down : ℕ} {d c h k : List ℕ} {y : Option ℕ} (top step : ℕ) → up ≤ step → Room top d c → Raised s t p up down d c h k y → Room (top + step) h k
room_raised {s} {t} {p} {up} {down} {d} {c} top step l r (raised hd hc j) = record {
  low = λ v. at (ℕ_discrete v t);
  long = length-set d t _ ∙ r.long;
  wide = length-set c t _ ∙ r.wide;
}
  where
    at : {v : ℕ} → Dec (v ≡ t) → get_or (set d t (get_or d s 0 + up - down)) v 0 ≤ top + step
    at (yes e) = rw e (omega (arith, get_or-set_same d t (get_or d s 0 + up - down) 0 hd, r.low s))
    at {v} (no f) = omega (arith, get_or-set_other d t v (get_or d s 0 + up - down) 0 f, r.low v)
room_raised top step l r (kept j) = record { low = λ v. omega (arith, r.low v); long = r.long; wide = r.wide }

-- the gain and the cost told by other words
pub raised_as :
    {s t p up up2 down down2 : ℕ} {d c h k : List ℕ} {y : Option ℕ} → up ≡ up2 → down ≡ down2 → Raised s t p up down d c h k y → Raised s t p up2 down2 d c h k y
raised_as e f w = rw (← e, ← f) w

pub raised_long : {s t p up down : ℕ} {d c h k : List ℕ} {y : Option ℕ} → Raised s t p up down d c h k y → (length h ≡ length d) × (length k ≡ length c)
raised_long {t = t} {d = d} {c = c} (raised hd hc j) = (length-set d t _, length-set c t _)
raised_long (kept j) = (refl, refl)

module _ {g : Net} {m time : ℕ → ℕ} {a b : ℕ} where
  pub swept_none : {S : ℕ → Type 0} {D P : ℕ → ℕ} → ((p : ℕ) → S p → ⊥) → SweptOver g m time a b S 0 D P D P None
  swept_none f = record { rises = 0; few = omega arith; lifts = none; passed = λ p s. absurd (f p s); quiet = λ e v. refl; loud = λ v e. absurd (cc) }

  pub swept_to : {S U : ℕ → Type 0} {k l : ℕ} {y : Option ℕ} {D P E Q : ℕ → ℕ} → ((p : ℕ) → U p → S p) → k ≤ l → SweptOver g m time a b S k D P E Q y → SweptOver g m time a b U l D P E Q y
  swept_to f h w = record { rises = w.rises; few = omega (arith, w.few); lifts = w.lifts; passed = λ p s. w.passed p (f p s); quiet = w.quiet; loud = w.loud }

  -- The transition that rose last in two sweeps is the second's, if one rose there, else the first's.
  pub swept_then :
      {S U W : ℕ → Type 0} {k l : ℕ} {y z : Option ℕ} {D P E Q F R : ℕ → ℕ} → ((p : ℕ) → W p → S p ⊎ U p) → SweptOver g m time a b S k D P E Q y → SweptOver g m time a b U l E Q F R z
      → SweptOver g m time a b W (k + l) D P F R (option_or z y)
  swept_then {S} {U} {W} {y = y} {z = z} {D} {P} {E} {Q} {F} {R} part f h = record {
    rises = f.rises + h.rises;
    few = omega (arith, f.few, h.few);
    lifts = lifts_trans f.lifts h.lifts;
    passed = λ p s. pass p (part p s);
    quiet = λ e v. still z h.quiet e v;
    loud = λ v e. rose z h.loud v e;
  }
    where
      pass : (p : ℕ) → S p ⊎ U p → NoRise g m time a b D F p
      pass p (inl s) = omega (arith, f.passed p s, lifts_up h.lifts (g.dst p))
      pass p (inr s) = omega (arith, h.passed p s, lifts_up f.lifts (g.src p))

      still : (r : Option ℕ) → (r ≡ None → (v : ℕ) → F v ≡ E v) → option_or r y ≡ None → (v : ℕ) → F v ≡ D v
      still None q e v = q refl v ∙ f.quiet e v
      still (Some t) q e v = absurd (cc)

      rose : (r : Option ℕ) → ((v : ℕ) → r ≡ Some v → (v < g.transitions) × (E v < F v)) → (v : ℕ) → option_or r y ≡ Some v → (v < g.transitions) × (D v < F v)
      rose None q v e = let u = f.loud v e in (u.0, omega (arith, u.1, lifts_up h.lifts v))
      rose (Some t) q v e = let u = q v e in (u.0, omega (arith, u.1, lifts_up f.lifts v))

  module _ (small : g.transitions ≤ 122) where
    swept_one :
        (q : ℕ) {d c h k : List ℕ} {y : Option ℕ} → q < g.places → g.dst q < g.transitions →
        Raised (g.src q) (g.dst q) q (b * time (g.src q)) (a * m q) d c h k y →
        SweptOver g m time a b (◌≡ q) 1 (at d) (at c) (at h) (at k) y
    swept_one q {d} {c} i l (raised hd hc j) =
        let t = g.dst q in
        let v = get_or d (g.src q) 0 + b * time (g.src q) - a * m q in
        let e : get_or (set d t v) t 0 ≡ v = get_or-set_same d t v 0 hd in
        let lift : Lift g m time a b q (at d) (at c) (at (set d t v)) (at (set c t (q + 1))) = record {
          inside = i;
          rise = j;
          new = omega arith;
          note = get_or-set_same c t (q + 1) 0 hc;
          same = λ u f. get_or-set_other d t u v 0 f;
          kept = λ u f. get_or-set_other c t u (q + 1) 0 f;
        } in
        record {
          rises = 1;
          few = omega arith;
          lifts = more q none lift;
          passed = λ p z. rw z (omega arith);
          quiet = λ e. absurd (cc);
          loud = λ v e. let same : t ≡ v = cc in rw (← same) (l, omega arith);
        }
    swept_one q {d} {c} i l (kept j) = record {
      rises = 0;
      few = omega arith;
      lifts = none;
      passed = λ p z. rw z j;
      quiet = λ e v. refl;
      loud = λ v e. absurd (cc);
    }

    -- the same of a place from s to t
    pub swept_at :
        {d c h k : List ℕ} {y : Option ℕ} (q : ℕ) {s t : ℕ} → g.dst q < g.transitions → RunsFrom g q s t →
        Raised s t q (b * time s) (a * m q) d c h k y →
        SweptOver g m time a b (◌≡ q) 1 (at d) (at c) (at h) (at k) y
    swept_at {d} {c} {h} {k} {y} q l r w =
        let z : Raised (g.src q) (g.dst q) q (b * time (g.src q)) (a * m q) d c h k y = rw (r.leaves, r.comes) w in
        swept_one q r.place l z

pub room_more : {top more : ℕ} {d c : List ℕ} → top ≤ more → Room top d c → Room more d c
room_more h r = record { low = λ v. omega (arith, r.low v); long = r.long; wide = r.wide }
