-- Rust's option and the definition's, each as the other.
use Rattle.std.specs.Prelude.{Option as CodeOption, Some, None}
use Rattle.std.proofs.Math.Option.{Option, none, some}

-- the definition's as Rust's
abbrev pub code_option : {A : Type 0} → Option A → CodeOption A
code_option none = None
code_option (some x) = Some x

-- Rust's as the definition's
abbrev pub rule_option : {A : Type 0} → CodeOption A → Option A
rule_option None = none
rule_option (Some x) = some x
