-- What converting and printing answer.
use Rattle.std.specs.Prelude.{ℕ, Result}
use Rattle.values.specs.declared.Refusal.{Refusal}

-- how much was written, or the reason for refusing and its place
abbrev pub Answer : Type 0
Answer = Result ℕ Refusal
