-- Where a record's parts end; and a call that was made on the copy of the input.
use Rattle.std.proofs.Common.{◌≡◌, ℕ, ◌+◌, ◌*◌, ◌-◌, ◌≤◌, Bool, List, length, get_or, drop, take, slice_range, IfOk, Result, Ok, Err, ap, sym, ◌∙◌, subst, arith}
use Rattle.std.proofs.lemmas.Slice.{drop-put_mid}
use Rattle.std.specs.declared.option.Option.{Option}
use borrow.Rule.Slice.PartMut.{put_mid}
use Rattle.records.specs.Called.{Called}
use Rattle.records.specs.Parts.{Ends, count_at, words}
use Rattle.records.specs.Records.{Made}
use Rattle.records.proofs.Behind.{behind}

-- what holds of a result's value in two ways
pub both : {T E : Type 0} {P Q R : T → Type 0} (r : Result T E) → IfOk r P → IfOk r Q → ((x : T) → P x → Q x → R x) → IfOk r R
both (Ok x) p q f = f x p q
both (Err e) p q f = tt

-- where parts end is determined
pub one_end : {s : List ℕ} {at f l m f' l' m' : ℕ} → Ends s at f l m → Ends s at f' l' m' → m ≡ m'
one_end {s} {at} e e' =
    let file = e.file ∙ sym e'.file in
    let list = e.list ∙ ap (λ x. x + 2 + 2 * count_at s x) file ∙ sym e'.list in
    e.marking ∙ ap (λ x. x + 2 + count_at s x) list ∙ sym e'.marking

-- what is written into the record's marking leaves what is behind the record
pub behind_part : {s : List ℕ} {at f l m f' l' end : ℕ} (from : ℕ) (copy part : List ℕ) → Ends s at f l m → Ends s at f' l' end → from ≤ end → end ≤ length copy → length part ≡ end - from
    → drop m (put_mid from (end - from) copy part) ≡ drop m copy
behind_part {m = m} {end = end} from copy part e e' p q r = drop-put_mid from (end - from) copy part m (omega (arith, one_end e e', p)) (omega (arith, p, q)) r

-- a call whose marking is lent from the copy, which is the input's from the record on
pub made_of : (s copy list marking : List ℕ) (at f l m : ℕ) (old new : Option (List ℕ)) (named is : Bool) → Ends s at f l m → m ≤ length s → drop at copy ≡ drop at s → named ≡ is
    → Called (get_or s at 0) (slice_range s (at + 3) f) (words (slice_range s (f + 2) l)) list (slice_range copy (l + 2) m) marking old new named
    → Made s at f l m old new is
made_of s copy list marking at f l m old new named is e w same n c =
    let part : slice_range copy (l + 2) m ≡ slice_range s (l + 2) m = ap (take (m - (l + 2))) (behind copy s at (l + 2) (omega (arith, e.file, e.list)) same) in
    let letter = get_or s at 0 in
    let file = slice_range s (at + 3) f in
    let entries = words (slice_range s (f + 2) l) in
    let answered = subst (λ b. Called letter file entries list (slice_range copy (l + 2) m) marking old new b) n c in
    record {
      ends = e;
      whole = w;
      list = list;
      marking = marking;
      called = subst (λ lent. Called letter file entries list lent marking old new is) part answered;
    }
