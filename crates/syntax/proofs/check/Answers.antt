-- `check`: the first fault counts. The table ends before 65,539, its length having two bytes.
use native.Mathlib.Omega.{arith}
use Rattle.std.proofs.Common.{◌≡◌, ◌∙◌}
use Rattle.rules.specs.Bytes.{two}
use Rattle.syntax.proofs.Whole.{bad_shape, bad_strings, then_names}
use Rattle.syntax.proofs.check.Goals as goal

pub returns-in_err-check_shape : goal.returns-in_err-check_shape
returns-in_err-check_shape c = let handed_on : c.from_residual.result ≡ c.check_shape.result = grind arith in handed_on ∙ bad_shape _ c.check_shape.ensures c.in_err-check_shape.was

pub check_strings-requires : goal.check_strings-requires
unfolding two
check_strings-requires c = omega (arith, c.type_inv.m 1, c.type_inv.m 2, c.end_of-e.ensures)

pub returns-in_err-check_strings : goal.returns-in_err-check_strings
returns-in_err-check_strings c = let handed_on : c.from_residual-in_err-check_strings.result ≡ c.check_strings.result = grind arith in handed_on ∙ bad_strings _ c.check_shape.ensures c.in_ok-check_shape.was c.end_of-e.ensures c.check_strings.ensures c.in_err-check_strings.was

pub count_strings-requires : goal.count_strings-requires
unfolding two
count_strings-requires c = omega (arith, c.type_inv.m 1, c.type_inv.m 2, c.end_of-e.ensures)

pub returns : goal.returns
returns c = then_names _ c.check_shape.ensures c.in_ok-check_shape.was c.end_of-e.ensures c.check_strings.ensures c.in_ok-check_strings.was c.count_strings.ensures c.check_names.ensures
