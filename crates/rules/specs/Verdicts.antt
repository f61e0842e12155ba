-- What the check before running finds: no fault, or the first one with its place.
use Rattle.std.specs.Prelude.{ℕ, Result, Ok, Err}
use Rattle.values.specs.declared.Reason.{Reason}
use Rattle.rules.specs.declared.Fault.{Fault}

abbrev pub Verdict : Type 0
Verdict = Result Unit Fault

abbrev pub no_fault : Verdict
no_fault = Ok tt

abbrev pub fault_at : Reason → (place : ℕ) → Verdict
fault_at r p = Err (record { reason = r; place = p })
