-- Columns are filled entry by entry, and columns within the limits make rows that the net's helpers take.
use mathlib.Core.Path.{◌∙◌, refl}
use mathlib.Core.List.{List}
use Prim.Native.Nat.{◌*◌, ◌+◌, ◌<◌, ◌≤◌, ℕ}
use native.Mathlib.Decide.{ℕ_discrete}
use native.Mathlib.Omega.{arith}
use lib.ListN.{get_or-replicate, length, length-set, replicate, set}
use lib.Seq.{get_or-set_other, get_or-set_same}
use Rattle.net.specs.Good.{Marked}
use Rattle.net.specs.helpers.Lent.{Lent}
use Rattle.net_main.specs.Columns.{Column, Held}

pub column_fresh : {least most : ℕ} → least ≤ most → Column least most (replicate 128 least)
column_fresh {least} h = record { long = refl; each = λ k l. rw (get_or-replicate 128 k least 0 l) (record { low = omega arith; high = h }) }

pub column_set : {least most v : ℕ} {xs : List ℕ} (i : ℕ) → i < 128 → Column least most xs → Held least most v → Column least most (set xs i v)
column_set {least} {most} {v} {xs} i l c h = record {
  long = length-set xs i v ∙ c.long;
  each = λ k j. elim (ℕ_discrete k i) [
    | yes e ↦ rw (e, get_or-set_same xs i v 0 (omega (arith, c.long))) h
    | no e ↦ rw (get_or-set_other xs i k v 0 e) (c.each k j)
  ];
}

-- The marks and the ends of a table that is small enough.
pub columns_marked : {n e : ℕ} {mark : List ℕ} → n ≤ 40 → e ≤ 5 → Column 0 1 mark → Marked n e mark
columns_marked h k c = record { operations = h; edges = omega arith; single = λ i l. (c.each i (omega arith)).high }

pub columns_lent :
    {n e : ℕ} {from to marking : List ℕ} → 1 ≤ n → n ≤ 40 → e ≤ 5 →
    Column 0 n from → Column 1 (n + 1) to → 3 * n + 2 * e ≤ length marking →
    Lent n e from to marking
columns_lent o h k f t l = record {
  wired = record {
    some = o;
    operations = h;
    edges = omega arith;
    leaves = λ i j. (f.each i (omega arith)).high;
    enters = λ i j. (t.each i (omega arith)).low;
    ends = λ i j. (t.each i (omega arith)).high;
  };
  long = l;
}
