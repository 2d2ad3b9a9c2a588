-- Listing the tight places, from the last to the first.
use mathlib.Core.Path.{◌≡◌, ap, sym, ◌∙◌, subst}
use mathlib.Core.List.{List}
use Prim.Native.Nat.{◌+◌, ◌<◌, ◌≤◌, ℕ}
use native.Mathlib.Omega.{arith}
use native.Mathlib.Decide.{ℕ_discrete}
use lib.ListN.{set}
use lib.Seq.{get_or-set_other, get_or-set_same}
use Rattle.marked.specs.Net.{Net, Proper, at}
use Rattle.net.specs.Limits.{most_places, most_transitions}
use Rattle.net.specs.Graph.{RunsFrom}
use Rattle.fraction.specs.helpers.Loaded.{Loaded}
use Rattle.circuit_tight.specs.helpers.Lists.{Lengthened, Listed, Listing, Next, TightIn, Whole}

-- One place more: it does not leave v along T.
next_lower : {g : Net} {T : ℕ → Type 0} {v p q : ℕ} → Next g T v (p + 1) q → (T p → g.src p ≡ v → ⊥) → Next g T v p q
next_lower {g} {T} {v} {p} {q} n f = record {
  most = n.most;
  fits = λ h. (omega (arith, (n.fits h).0), (n.fits h).1, (n.fits h).2);
  none = λ x i j t e. elim (ℕ_discrete x p) [ yes z ↦ f (subst T z t) (sym (ap g.src z) ∙ e) | no z ↦ n.none x (omega arith) j t e ];
}

module _ {g : Loaded} {a b : ℕ} {d : List ℕ} where
  -- The place p is listed,
  module _
      {head next src dst : List ℕ} {p s t : ℕ} (l : Listing g a b d (p + 1) head next src dst) (o : Whole head next src dst)
      (inside : p < g.net.places) (room : p < most_places) (es : g.net.src p ≡ s) (et : g.net.dst p ≡ t)
      (hs : s < g.net.transitions) (few : g.net.transitions ≤ most_transitions) (ht : t < most_transitions) where
    module _ (tight : TightIn g a b d p) where
      front : (v : ℕ) → v < g.net.transitions → Dec (v ≡ s) → Next g.net (TightIn g a b d) v p (at (set head s p) v)
      front v h (yes z) =
          let e : at (set head s p) v ≡ p = ap (at (set head s p)) z ∙ get_or-set_same head s p 0 (omega (arith, o.heads)) in
          rw e (record { most = omega arith; fits = λ k. (omega arith, tight, es ∙ sym z); none = λ x i j. absurd (omega arith) })
      front v h (no z) = rw (get_or-set_other head s v p 0 z) (next_lower (l.heads v h) (λ k e. z (sym e ∙ es)))

      onward : (q : ℕ) → p ≤ q → q < g.net.places → TightIn g a b d q → Dec (q ≡ p) → Next g.net (TightIn g a b d) (g.net.src q) (q + 1) (at (set next p (at head s)) q)
      onward q i h k (yes z) =
          let e : at (set next p (at head s)) q ≡ at head s = ap (at (set next p (at head s))) z ∙ get_or-set_same next p (at head s) 0 (omega (arith, o.nexts)) in
          rw (e, z, es) (l.heads s hs)
      onward q i h k (no z) = rw (get_or-set_other next p q (at head s) 0 z) (l.nexts q (omega arith) h k)

      known : (q : ℕ) → p ≤ q → q < g.net.places → Listed (set dst p t) q → Dec (q ≡ p) → TightIn g a b d q × (at (set src p s) q ≡ g.net.src q) × (at (set dst p t) q ≡ g.net.dst q)
      known q i h k (yes z) =
          let e : at (set src p s) q ≡ s = ap (at (set src p s)) z ∙ get_or-set_same src p s 0 (omega (arith, o.sources)) in
          let f : at (set dst p t) q ≡ t = ap (at (set dst p t)) z ∙ get_or-set_same dst p t 0 (omega (arith, o.targets)) in
          (subst (TightIn g a b d) (sym z) tight, e ∙ sym es ∙ ap g.net.src (sym z), f ∙ sym et ∙ ap g.net.dst (sym z))
      known q i h k (no z) =
          let r = l.tight q (omega arith) h (rw (get_or-set_other dst p q t 0 z) at k) in
          (r.0, get_or-set_other src p q s 0 z ∙ r.1, get_or-set_other dst p q t 0 z ∙ r.2)

      noted : (q : ℕ) → p ≤ q → q < g.net.places → TightIn g a b d q → Dec (q ≡ p) → Listed (set dst p t) q
      noted q i h k (yes z) = λ e. omega (arith, ap (at (set dst p t)) z, get_or-set_same dst p t 0 (omega (arith, o.targets)))
      noted q i h k (no z) = rw (get_or-set_other dst p q t 0 z) (l.listed q (omega arith) h k)

      low : (v : ℕ) → Dec (v ≡ s) → at (set head s p) v ≤ g.net.places
      low v (yes z) = omega (arith, ap (at (set head s p)) z, get_or-set_same head s p 0 (omega (arith, o.heads)))
      low v (no z) = omega (arith, get_or-set_other head s v p 0 z, l.low v)

      listing_put : Listing g a b d p (set head s p) (set next p (at head s)) (set src p s) (set dst p t)
      listing_put = record {
        heads = λ v h. front v h (ℕ_discrete v s);
        nexts = λ q i h k. onward q i h k (ℕ_discrete q p);
        tight = λ q i h k. known q i h k (ℕ_discrete q p);
        listed = λ q i h k. noted q i h k (ℕ_discrete q p);
        blank = λ q i h. get_or-set_other dst p q t 0 (λ z. omega arith) ∙ l.blank q (omega arith) h;
        low = λ v. low v (ℕ_discrete v s);
      }

    -- or it is not tight.
    module _ (loose : TightIn g a b d p → ⊥) where
      listing_past : Listing g a b d p head next src dst
      listing_past = record {
        heads = λ v h. next_lower (l.heads v h) (λ k e. absurd (loose k));
        nexts = λ q i h k. elim (ℕ_discrete q p) [ yes z ↦ absurd (loose (subst (TightIn g a b d) z k)) | no z ↦ l.nexts q (omega arith) h k ];
        tight = λ q i h k. elim (ℕ_discrete q p) [ yes z ↦ absurd (k (ap (at dst) z ∙ l.blank p (omega arith) inside)) | no z ↦ l.tight q (omega arith) h k ];
        listed = λ q i h k. elim (ℕ_discrete q p) [ yes z ↦ absurd (loose (subst (TightIn g a b d) z k)) | no z ↦ l.listed q (omega arith) h k ];
        blank = λ q i h. l.blank q (omega arith) h;
        low = l.low;
      }

  -- One place more is listed.
  module _
      {head next src dst : List ℕ} {p s t : ℕ} (ok : Proper g.net) (few : g.net.transitions ≤ most_transitions) (many : g.net.places ≤ most_places)
      (r : RunsFrom g.net p s t) (o : Whole head next src dst) where
    pub longer_put : TightIn g a b d p → Lengthened g a b d (p + 1) p head next src dst (set head s p) (set next p (at head s)) (set src p s) (set dst p t)
    longer_put tight =
        let hs = ok.src_in p r.place in
        let ht = ok.dst_in p r.place in
        record { more = λ l. listing_put l o r.place (omega (arith, many, r.place)) r.leaves r.comes (omega (arith, r.leaves)) few (omega (arith, r.comes)) tight }

    pub longer_past : (TightIn g a b d p → ⊥) → Lengthened g a b d (p + 1) p head next src dst head next src dst
    longer_past loose =
        let hs = ok.src_in p r.place in
        let ht = ok.dst_in p r.place in
        record { more = λ l. listing_past l o r.place (omega (arith, many, r.place)) r.leaves r.comes (omega (arith, r.leaves)) few (omega (arith, r.comes)) loose }

  -- Two steps in a row, where one begins as the other ends.
  pub longer_then :
      {hi hi2 mid mid2 lo : ℕ} {head next src dst h k u w h2 k2 u2 w2 : List ℕ} → hi ≡ hi2 → mid ≡ mid2 → Lengthened g a b d hi mid head next src dst h k u w
      → Lengthened g a b d mid2 lo h k u w h2 k2 u2 w2 → Lengthened g a b d hi2 lo head next src dst h2 k2 u2 w2
  longer_then e f x y = rw (← e) (record { more = λ l. y.more (rw (← f) (x.more l)) })
