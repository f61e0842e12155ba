-- `numbers_of`: one string after the other.
use Rattle.std.proofs.Common.{◌≡◌, ◌∙◌}
use Rattle.std.specs.Prelude.{None}
use native.Mathlib.Omega.{arith}
use Rattle.explanation.specs.Questions.{numbers_of}
use Rattle.explanation.proofs.Noted.{no_type, no_title, no_name, all_known}
use Rattle.explanation.proofs.numbers_of.Goals as goal

pub returns-in_err-kind_number : goal.returns-in_err-kind_number
unfolding numbers_of
returns-in_err-kind_number c = let gone : c.from_residual.result ≡ None = grind arith in gone ∙ no_type _ _ _ c.string_number.ensures c.in_err-kind_number.was

pub returns-in_err-title_number : goal.returns-in_err-title_number
unfolding numbers_of
returns-in_err-title_number c = let gone : c.from_residual-in_err-title_number.result ≡ None = grind arith in gone ∙ no_title _ _ _ c.string_number.ensures c.in_ok-kind_number.was c.string_number-2.ensures c.in_err-title_number.was

pub returns-in_err-name : goal.returns-in_err-name
unfolding numbers_of
returns-in_err-name c = let gone : c.from_residual-in_err-name.result ≡ None = grind arith in gone ∙ no_name _ _ _ c.string_number.ensures c.in_ok-kind_number.was c.string_number-2.ensures c.in_ok-title_number.was c.string_number-3.ensures c.in_err-name.was

pub returns : goal.returns
unfolding numbers_of
returns c = all_known _ _ _ c.string_number.ensures c.in_ok-kind_number.was c.string_number-2.ensures c.in_ok-title_number.was c.string_number-3.ensures c.in_ok-name.was
