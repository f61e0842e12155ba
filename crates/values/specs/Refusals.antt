-- Refusals.
use Rattle.std.specs.Prelude.{ℕ}
use Rattle.values.specs.declared.Reason.{Reason}
use Rattle.values.specs.declared.Refusal.{Refusal}

abbrev pub refusal_at : Reason → (place : ℕ) → Refusal
refusal_at r p = record { reason = r; place = p }
