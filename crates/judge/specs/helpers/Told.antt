-- What a row's search makes of a verdict.
use Rattle.std.specs.Prelude.{ℕ, Option, Some, None, Ok, Err}
use Rattle.refusal.specs.Asking.{Verdict}
use Rattle.refusal.specs.declared.Reason.{Reason}

-- Where nothing is found, nothing is refused.
abbrev pub told : Reason → Option ℕ → Verdict
told k None = Ok tt
told k (Some x) = Err (record { reason = k; place = x })
