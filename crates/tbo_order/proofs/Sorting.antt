-- Ordering the items loses none: each is in order, kept, or still to come.
use mathlib.Core.Path.{◌≡◌, ap, sym, ◌∙◌, subst}
use mathlib.Core.Logic.{inl, inr}
use mathlib.Core.List.{List}
use Prim.Native.Nat.{◌+◌, ◌-◌, ◌<◌, ◌≤◌, ℕ}
use native.Mathlib.Omega.{arith}
use native.Mathlib.Decide.{dec_lt, ℕ_discrete}
use lib.ListN.{length, length-set, set}
use lib.Seq.{get_or-set_other, get_or-set_same}
use Rattle.marked.specs.Net.{at}
use Rattle.tbo_order.specs.helpers.Items.{Enlisted, Item, ItemAt, Ordered, Sorting, Where}
use Rattle.tbo_order.specs.helpers.Items.Where.{kept, next, put}

module _ {n e : ℕ} {left ord : List ℕ} {i l m c : ℕ} (s : Sorting n e left ord i l m c) (few : n ≤ 40) (many : e ≤ 128) (h : i < l) where
  pub sort_item : Item n e (at left i)
  sort_item = s.lefts i h

  -- There is room for it in either list.
  pub room_put : c < 168
  room_put = omega (arith, s.behind, s.sum)

  pub room_kept : m < 168
  room_kept = omega (arith, s.behind, s.sum)

  pub room_next : i < 168
  room_next = omega (arith, s.most)

  module _ {x : ℕ} (ex : x ≡ at left i) where
    put_where : {y : ℕ} → Where left ord i l m c y → Where left (set ord c x) (i + 1) l m (c + 1) y
    put_where (put j k z) = put j (omega arith) (get_or-set_other ord c j x 0 (λ w. omega arith) ∙ z)
    put_where (kept j k z) = kept j k z
    put_where (next j u v z) = elim (ℕ_discrete j i) [
      | yes w ↦ put c (omega arith) (get_or-set_same ord c x 0 (omega (arith, s.long, room_put)) ∙ ex ∙ ap (at left) (sym w) ∙ z)
      | no w ↦ next j (omega arith) v z
    ]

    -- It goes to the end of the order,
    pub sort_put : Sorting n e left (set ord c x) (i + 1) l m (c + 1)
    sort_put = record {
      behind = omega (arith, s.behind);
      within = omega arith;
      most = s.most;
      sum = omega (arith, s.sum);
      lefts = s.lefts;
      puts = λ j k. elim (ℕ_discrete j c) [
        | yes z ↦ subst (Item n e) (sym (ap (at (set ord c x)) z ∙ get_or-set_same ord c x 0 (omega (arith, s.long, room_put)) ∙ ex)) sort_item
        | no z ↦ subst (Item n e) (sym (get_or-set_other ord c j x 0 z)) (s.puts j (omega arith))
      ];
      all = λ y k. put_where (s.all y k);
      wide = s.wide;
      long = length-set ord c x ∙ s.long;
    }

    kept_where : {y : ℕ} → Where left ord i l m c y → Where (set left m x) ord (i + 1) l (m + 1) c y
    kept_where (put j k z) = put j k z
    kept_where (kept j k z) = kept j (omega arith) (get_or-set_other left m j x 0 (λ w. omega arith) ∙ z)
    kept_where (next j u v z) = elim (ℕ_discrete j i) [
      | yes w ↦ kept m (omega arith) (get_or-set_same left m x 0 (omega (arith, s.wide, room_kept)) ∙ ex ∙ ap (at left) (sym w) ∙ z)
      | no w ↦ next j (omega arith) v (get_or-set_other left m j x 0 (λ q. omega (arith, s.behind)) ∙ z)
    ]

    -- or is kept.
    pub sort_kept : Sorting n e (set left m x) ord (i + 1) l (m + 1) c
    sort_kept = record {
      behind = omega (arith, s.behind);
      within = omega arith;
      most = s.most;
      sum = omega (arith, s.sum);
      lefts = λ j k. elim (ℕ_discrete j m) [
        | yes z ↦ subst (Item n e) (sym (ap (at (set left m x)) z ∙ get_or-set_same left m x 0 (omega (arith, s.wide, room_kept)) ∙ ex)) sort_item
        | no z ↦ subst (Item n e) (sym (get_or-set_other left m j x 0 z)) (s.lefts j k)
      ];
      puts = s.puts;
      all = λ y k. kept_where (s.all y k);
      wide = length-set left m x ∙ s.wide;
      long = s.long;
    }

module _ {n e : ℕ} {left ord : List ℕ} {i l m c : ℕ} (s : Sorting n e left ord i l m c) where
  -- At the end of a pass the kept ones are what is left.
  pub sort_again : i ≡ l → Sorting n e left ord 0 m 0 c
  sort_again z = record {
    behind = omega arith;
    within = omega arith;
    most = omega (arith, s.behind, s.most);
    sum = omega (arith, s.sum);
    lefts = λ j k. s.lefts j (omega (arith, s.behind));
    puts = s.puts;
    all = λ y k. at_end (s.all y k);
    wide = s.wide;
    long = s.long;
  }
    where
      at_end : {y : ℕ} → Where left ord i l m c y → Where left ord 0 m 0 c y
      at_end (put j k w) = put j k w
      at_end (kept j k w) = next j (omega arith) k w
      at_end (next j u v w) = absurd (omega arith)

pub sort_left : {n e : ℕ} {left ord : List ℕ} {l k c : ℕ} → k ≡ l → Sorting n e left ord 0 k 0 c → Sorting n e left ord 0 l 0 c
sort_left {n} {e} {left} {ord} {c = c} z s = subst (λ (y : ℕ). Sorting n e left ord 0 y 0 c) z s

-- Where none is left, all are in order.
pub sort_end : {n e : ℕ} {left ord : List ℕ} {l c : ℕ} → Sorting n e left ord 0 l 0 c → l ≡ 0 → Ordered n e ord
sort_end {n} {e} {left} {ord} {l} {c} s z = record { items = λ j k. s.puts j (omega (arith, s.sum)); all = λ x k. in_order (s.all x k) }
  where
    in_order : {x : ℕ} → Where left ord 0 l 0 c x → (j : ℕ) × (j < n + e) × (at ord j ≡ x)
    in_order (put j k w) = (j, omega (arith, s.sum), w)
    in_order (kept j k w) = absurd (omega arith)
    in_order (next j u v w) = absurd (omega arith)

-- The items in their own order.
pub listed_item : (n e i : ℕ) {r : ℕ} → i < n + e → ItemAt e i r → Item n e r
listed_item n e i h o = elim (dec_lt i e) [ yes k ↦ inl (omega (arith, o.edge k)) | no k ↦ inr (omega (arith, o.operation (omega arith)), omega (arith, o.operation (omega arith))) ]

module _ {n e i x : ℕ} {left : List ℕ} (o : Enlisted n e i left) where
  pub enlist_on : i < 168 → ItemAt e i x → Enlisted n e (i + 1) (set left i x)
  enlist_on h k = record {
    each = λ j l. elim (ℕ_discrete j i) [
      | yes z ↦ subst (λ (y : ℕ). ItemAt e y (at (set left i x) y)) (sym z) (subst (ItemAt e i) (sym (get_or-set_same left i x 0 (omega (arith, o.long)))) k)
      | no z ↦ subst (ItemAt e j) (sym (get_or-set_other left i j x 0 z)) (o.each j (omega arith))
    ];
    long = length-set left i x ∙ o.long;
  }

pub enlist_none : {n e : ℕ} {left : List ℕ} → length left ≡ 168 → Enlisted n e 0 left
enlist_none l = record { each = λ j h. absurd (omega arith); long = l }

-- The passes begin with all items left.
pub sort_start : {n e : ℕ} {left ord : List ℕ} → e ≤ 128 → Enlisted n e (n + e) left → length ord ≡ 168 → Sorting n e left ord 0 (n + e) 0 0
sort_start {n} {e} {left} {ord} many o l = record {
  behind = omega arith;
  within = omega arith;
  most = omega arith;
  sum = omega arith;
  lefts = λ j h. listed_item n e j h (o.each j h);
  puts = λ j h. absurd (omega arith);
  all = λ x k. found x k;
  wide = o.long;
  long = l;
}
  where
    found : (x : ℕ) → Item n e x → Where left ord 0 (n + e) 0 0 x
    found x (inl h) = next x (omega arith) (omega arith) ((o.each x (omega arith)).edge h)
    found x (inr h) =
        let j = x - 128 + e in
        let k : j < n + e = omega (arith, h.0, h.1) in
        next j (omega arith) k ((o.each j k).operation (omega arith) ∙ omega (arith, h.0))

-- An item from 128 on is an operation, one below is an edge.
pub item_op : (n e x : ℕ) → e ≤ 128 → Item n e x → 128 ≤ x → x < 128 + n
item_op n e x many (inl h) k = absurd (omega arith)
item_op n e x many (inr h) k = h.1

pub item_edge : (n e x : ℕ) → Item n e x → x < 128 → x < e
item_edge n e x (inl h) k = h
item_edge n e x (inr h) k = absurd (omega (arith, h.0))
