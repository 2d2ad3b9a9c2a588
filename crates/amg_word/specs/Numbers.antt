-- The count that each reply tells beside its refusal, and what bounds and report tell besides.
use Rattle.std.specs.Prelude.{List, [], ◌∷◌, ℕ, Option, Some, None, Result, Ok, Err}
use Rattle.refusal.specs.declared.Refusal.{Refusal}
use Rattle.bounds_graph.specs.declared.reply.Measures.{Measures}
use Rattle.report_graph.specs.declared.reply.RefusedReport.{RefusedReport}

-- What `wait` tells: the wait.
abbrev pub wait_count : Result ℕ Refusal → ℕ
wait_count (Ok firings) = firings
wait_count (Err r) = 0

-- What `bounds` tells: the circuit's length.
abbrev pub bounds_count : Result Measures Refusal → ℕ
bounds_count (Ok v) = v.length
bounds_count (Err r) = 0

-- Its five numbers: TBO's numerator and denominator, TBIO, TT and TCE.
abbrev pub bounds_values : Measures → List ℕ
bounds_values v = v.numerator ∷ v.denominator ∷ v.tbio ∷ v.tt ∷ v.tce ∷ []

-- What `report` answers.
abbrev pub report_refusal : Result ℕ RefusedReport → Option Refusal
report_refusal (Ok len) = None
report_refusal (Err r) = Some r.refusal

-- Its count: the text's length, a refusal's line too.
abbrev pub report_count : Result ℕ RefusedReport → ℕ
report_count (Ok len) = len
report_count (Err r) = r.length
