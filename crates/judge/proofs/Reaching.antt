-- Rows 8 and 9 are decided: joined nodes and token-free circuits are ways.
use mathlib.Core.Path.{◌≡◌, refl, sym, ◌∙◌, subst}
use mathlib.Core.Logic.{◌⊎◌, inl, inr, ⊎_elim}
use mathlib.Core.List.{List, [], ◌∷◌, ◌++◌}
use Prim.Native.Nat.{◌+◌, ◌*◌, ◌/◌, ◌%◌, ◌<◌, ◌≤◌, ℕ}
use native.Mathlib.Decide.{ℕ_discrete}
use native.Mathlib.Omega.{arith}
use lib.Dec.{eqb}
use lib.ListN.{length, length-append}
use borrow.Author.Tests.{eq-eqb, ne_eqb}
use Rattle.marked.specs.Sums.{sum}
use Rattle.marked.specs.Net.{Net, Proper, Walk, go, stop, tokens}
use Rattle.marked.proofs.Decide.{eq?}
use Rattle.marked.proofs.Walks.{join}
use Rattle.marked.proofs.Pigeonhole.{sum_append}
use Rattle.marked.proofs.Alive.{empty_circuit}
use Rattle.net.specs.Plan.{Joined, Plan, against, along, source}
use Rattle.net.specs.Ends.{pick}
use Rattle.net.specs.Graph.{net_of, start_of}
use Rattle.net.specs.Rules.{Alive}
use Rattle.judge.proofs.Ways.{Way, more, one, way?}

-- Row 8: an edge is two hops, there and back.
module _ (p : Plan) where
  abbrev near : ℕ → ℕ
  near h = pick (eqb (h % 2) 0) (p.from (h / 2)) (p.to (h / 2))

  abbrev far : ℕ → ℕ
  far h = pick (eqb (h % 2) 0) (p.to (h / 2)) (p.from (h / 2))

  even : (e : ℕ) → (near (2 * e) ≡ p.from e) × (far (2 * e) ≡ p.to e)
  even e =
      let t = eq-eqb ((2 * e) % 2) 0 (omega arith) in
      let h : (2 * e) / 2 ≡ e = omega arith in
      (simp (t, h), simp (t, h))

  odd : (e : ℕ) → (near (2 * e + 1) ≡ p.to e) × (far (2 * e + 1) ≡ p.from e)
  odd e =
      let t = ne_eqb ((2 * e + 1) % 2) 0 (λ z. omega arith) in
      let h : (2 * e + 1) / 2 ≡ e = omega arith in
      (simp (t, h), simp (t, h))

  hop : (e x y : ℕ) → x < 2 * p.edges → near x ≡ y → (y ≡ 0) ⊎ Way (2 * p.edges) near far 0 y → Way (2 * p.edges) near far 0 (far x)
  hop e x y l q (inl z) = one x l (q ∙ z)
  hop e x y l q (inr w) = more x l (rw q w)

  pub joined_way : (n : ℕ) → Joined p n → (n ≡ 0) ⊎ Way (2 * p.edges) near far 0 n
  joined_way n source = inl refl
  joined_way n (along e l j) =
      inr (rw (← (even e).1) (hop e (2 * e) (p.from e) (omega arith) (even e).0 (joined_way (p.from e) j)))
  joined_way n (against e l j) =
      inr (rw (← (odd e).1) (hop e (2 * e + 1) (p.to e) (omega arith) (odd e).0 (joined_way (p.to e) j)))

  cross : (h : ℕ) → h < 2 * p.edges → Joined p (near h) → Joined p (far h)
  cross h l j = at (ℕ_discrete (h % 2) 0)
    where
      at : Dec (h % 2 ≡ 0) → Joined p (far h)
      at (yes e) =
          let q : h ≡ 2 * (h / 2) = omega arith in
          let x = even (h / 2) in
          rw q (rw x.1 (along (h / 2) (omega arith) (rw x.0 at (rw q at j))))
      at (no e) =
          let q : h ≡ 2 * (h / 2) + 1 = omega arith in
          let x = odd (h / 2) in
          rw q (rw x.1 (against (h / 2) (omega arith) (rw x.0 at (rw q at j))))

  pub way_joined : {n : ℕ} → Way (2 * p.edges) near far 0 n → Joined p n
  way_joined (one h l e) = cross h l (subst (Joined p) (sym e) source)
  way_joined (more h l w) = cross h l (way_joined w)

  module _ (bound : (e : ℕ) → e < p.edges → (p.from e < p.operations + 2) × (p.to e < p.operations + 2)) where
    pub far_in : (h : ℕ) → h < 2 * p.edges → far h < p.operations + 2
    far_in h l = at (ℕ_discrete (h % 2) 0)
      where
        b : (p.from (h / 2) < p.operations + 2) × (p.to (h / 2) < p.operations + 2)
        b = bound (h / 2) (omega arith)

        at : Dec (h % 2 ≡ 0) → far h < p.operations + 2
        at (yes e) = rw (eq-eqb (h % 2) 0 e) b.1
        at (no e) = rw (ne_eqb (h % 2) 0 e) b.0

    abbrev joined : (n : ℕ) → Dec (n ≡ 0) → Dec (Way (2 * p.edges) near far 0 n) → Dec (Joined p n)
    joined n (yes e) d = yes (subst (Joined p) (sym e) source)
    joined n (no e) (yes w) = yes (way_joined w)
    joined n (no e) (no w) = no (λ j. ⊎_elim e w (joined_way n j))

    abbrev pub joined? : (n : ℕ) → Dec (Joined p n)
    joined? n = joined n (eq? n 0) (way? (2 * p.edges) (p.operations + 2) near far 0 far_in n)

-- Row 9: an empty place is a hop; a place with a token leads from nowhere.
module _ (g : Net) (m : ℕ → ℕ) where
  abbrev leaves : ℕ → ℕ
  leaves q = pick (eqb (m q) 0) (g.src q) g.transitions

  abbrev Hops : ℕ → ℕ → Type 0
  Hops t u = Way g.places leaves g.dst t u

  -- A walk along empty places.
  record Empty (t u : ℕ) : Type 0 where
    ps : List ℕ
    walk : Walk g t u ps
    some : 1 ≤ length ps
    none : tokens m ps ≡ 0

  module _ (proper : Proper g) where
    place : (q u : ℕ) → u < g.transitions → leaves q ≡ u → (m q ≡ 0) × (g.src q ≡ u)
    place q u l e = at (ℕ_discrete (m q) 0)
      where
        at : Dec (m q ≡ 0) → (m q ≡ 0) × (g.src q ≡ u)
        at (yes z) = (z, sym (simp (eq-eqb (m q) 0 z)) ∙ e)
        at (no z) = absurd (let y : leaves q ≡ g.transitions = simp (ne_eqb (m q) 0 z) in omega arith)

    way_in : {t u : ℕ} → Hops t u → u < g.transitions
    way_in (one q l e) = proper.dst_in q l
    way_in (more q l w) = proper.dst_in q l

    step : {t : ℕ} (q : ℕ) → q < g.places → m q ≡ 0 → (ps : List ℕ) → Walk g t (g.src q) ps → tokens m ps ≡ 0 → Empty t (g.dst q)
    unfolding sum
    step q l z ps w e =
        record { ps = ps ++ (q ∷ []); walk = join w (go q l stop); some = omega (arith, length-append ps (q ∷ [])); none = omega (arith, sum_append m ps (q ∷ [])) }

    way_walk : {t u : ℕ} → t < g.transitions → Hops t u → Empty t u
    unfolding sum
    way_walk {t} h (one q l e) =
        let x = place q t h e in
        step q l x.0 [] (subst (λ (s : ℕ). Walk g s (g.src q) []) x.1 stop) refl
    way_walk {t} h (more q l w) =
        let x = place q (leaves q) (way_in w) refl in
        let y = way_walk h w in
        step q l x.0 y.ps (subst (λ (s : ℕ). Walk g t s y.ps) (sym x.1) y.walk) y.none

    along_walk : {t a b : ℕ} {ps : List ℕ} → Hops t a → Walk g a b ps → tokens m ps ≡ 0 → Hops t b
    unfolding sum
    along_walk w stop z = w
    along_walk {t} w (go q l v) z =
        let y : leaves q ≡ g.src q = simp (eq-eqb (m q) 0 (omega arith)) in
        along_walk (more q l (subst (Hops t) (sym y) w)) v (omega arith)

    walk_way : {a b : ℕ} {ps : List ℕ} → Walk g a b ps → 1 ≤ length ps → tokens m ps ≡ 0 → Hops a b
    unfolding sum
    walk_way stop s z = absurd (omega arith)
    walk_way (go q l v) s z =
        let y : leaves q ≡ g.src q = simp (eq-eqb (m q) 0 (omega arith)) in
        along_walk (one q l y) v (omega arith)

-- Whether every circuit through t has a token.
module _ (p : Plan) (ok : Proper (net_of p)) where
  pub not_alive : (t : ℕ) → t < (net_of p).transitions → Hops (net_of p) (start_of p) t t → Alive p t → ⊥
  not_alive t l w a =
      let x = way_walk (net_of p) (start_of p) ok l w in
      let d = empty_circuit (start_of p) x.walk x.some x.none in
      omega (arith, a d.ring d.circuit, d.empty)

  pub is_alive : (t : ℕ) → (Hops (net_of p) (start_of p) t t → ⊥) → Alive p t
  is_alive t w ring c = at (ℕ_discrete (tokens (start_of p) ring) 0)
    where
      at : Dec (tokens (start_of p) ring ≡ 0) → 1 ≤ tokens (start_of p) ring
      at (yes z) = absurd (w (walk_way (net_of p) (start_of p) ok c.walk c.some z))
      at (no z) = omega arith

  abbrev alive : (t : ℕ) → t < (net_of p).transitions → Dec (Hops (net_of p) (start_of p) t t) → Dec (Alive p t)
  alive t l (yes w) = no (not_alive t l w)
  alive t l (no w) = yes (is_alive t w)

  abbrev pub alive? : (t : ℕ) → t < (net_of p).transitions → Dec (Alive p t)
  alive? t l = alive t l (way? (net_of p).places (net_of p).transitions (leaves (net_of p) (start_of p)) (net_of p).dst t ok.dst_in t)
