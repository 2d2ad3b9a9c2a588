-- One entry more.
use Rattle.std.proofs.Common.{◌≡◌, ◌+◌, ◌/◌, rules, take, take_all, length, ◌++◌, [], ◌∷◌, get_or, arith}
use Rattle.std.proofs.lemmas.List.{take_more_set}
use native.Mathlib.Numerals.{add-one}
use lib.Seq.{take-suc}
use Rattle.records.specs.Parts.{words}
use Rattle.records.proofs.Words.{words_at, words_length}
use Rattle.records.proofs.entries.Goals as goal

pub loop-k-preserved : goal.loop-k-preserved
loop-k-preserved c =
    let k = c.loop-k.k in
    let s = c.args.s.now in
    let put = take_more_set c.loop-k.out k c.word.result (omega (arith, c.loop-k.invariant.0, c.loop-k-test.true, c.requires)) in
    let has : take (k + 1) (words s) ≡ take k (words s) ++ (get_or (words s) k 0 ∷ []) = rw (add-one k) (take-suc (words s) k 0 (omega (arith, words_length s, c.loop-k-test.true))) in
    let is = words_at s k c.loop-k-test.true in
    (search rules, cc)

pub returns : goal.returns
returns c =
    let s = c.args.s.now in
    let e : c.loop-k.k ≡ length s / 2 = omega (arith, c.loop-k.auto.k-end, c.loop-k-test.false) in
    let all = take_all c.loop-k.k (words s) (omega (arith, words_length s, e)) in
    cc
