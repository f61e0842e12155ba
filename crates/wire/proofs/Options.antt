-- The laws of `code_option` and `rule_option`: each undoes the other, and what the one gives tells what it was given.
use Rattle.std.specs.Prelude.{Option as CodeOption, Some, None}
use Rattle.std.proofs.Common.{◌≡◌, refl, sym, ap, ◌∙◌}
use Rattle.std.proofs.Math.Option.{Option, none, some}
use Rattle.wire.specs.Options.{code_option, rule_option}

pub code_of_rule : {A : Type 0} (o : CodeOption A) → code_option (rule_option o) ≡ o
code_of_rule None = refl
code_of_rule (Some x) = refl

pub rule_of_code : {A : Type 0} (o : Option A) → rule_option (code_option o) ≡ o
rule_of_code none = refl
rule_of_code (some x) = refl

module _ {A : Type 0} {o : Option A} where
  -- whatever Rust's option is, the definition's is it too
  pub told : {p : CodeOption A} → code_option o ≡ p → o ≡ rule_option p
  told e = sym (rule_of_code o) ∙ ap rule_option e

  pub told_some : {x : A} → code_option o ≡ Some x → o ≡ some x
  told_some e = told e

  pub told_none : code_option o ≡ None → o ≡ none
  told_none e = told e
