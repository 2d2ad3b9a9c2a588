-- What stands in an entry, as the lists of the entries' parts tell it.
use mathlib.Core.Path.{◌≡◌, sym, ◌∙◌}
use mathlib.Core.List.{List}
use Prim.Native.Nat.{ℕ}
use lib.ListN.{get_or, get_or-map}
use Rattle.marked.specs.Net.{at}
use Rattle.circuit_tight.specs.helpers.Entries.{nexts, sources, targets}
use Rattle.circuit_tight.specs.declared.Entry.{Entry}

abbrev pub blank : Entry
blank = record { next = 0; source = 0; target = 0 }

module _ (es : List Entry) (q : ℕ) where
  pub next_at : at (nexts es) q ≡ (get_or es q blank).next
  next_at = get_or-map (λ (e : Entry). e.next) es q blank

  pub source_told : {x : ℕ} → x ≡ (get_or es q blank).source → x ≡ at (sources es) q
  source_told e = e ∙ sym (get_or-map (λ (d : Entry). d.source) es q blank)

  pub target_told : {x : ℕ} → x ≡ (get_or es q blank).target → x ≡ at (targets es) q
  target_told e = e ∙ sym (get_or-map (λ (d : Entry). d.target) es q blank)
