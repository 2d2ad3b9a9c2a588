-- The extremes of every row are asked; what they grant is `extremes_kept`.
use native.Mathlib.Omega.{arith}
use Rattle.refusal.proofs.Answers.{said}
use Rattle.judge_tables.proofs.Plain.{extremes_kept}
use Rattle.judge_tables.proofs.edges.plain.Goals as goal

pub returns-then-smallest-ge1 : goal.returns-then-smallest-ge1
returns-then-smallest-ge1 c = λ e.
    extremes_kept c.smallest.ensures (omega arith) c.largest.ensures c.largest-then-smallest-ge1.ensures c.largest-then-smallest-ge1-2.ensures c.largest-then-smallest-ge1-3.ensures (said c.allowed.ensures e)
