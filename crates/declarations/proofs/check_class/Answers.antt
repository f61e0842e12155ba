-- `check_class`: unknown, declared again, refused by the parameters, found.
use mathlib.Core.Path.{◌≡◌}
use native.Mathlib.Omega.{arith}
use Rattle.std.specs.Prelude.{Err}
use Rattle.declarations.proofs.Classes.{class_unknown, class_again, class_unchecked, class_checked}
use Rattle.declarations.proofs.Standing.{found_at, class_stands, class_start, class_parts, block_place}
use Rattle.declarations.proofs.check_class.Goals as goal

pub returns-in_default : goal.returns-in_default
returns-in_default c = class_unknown _ _ _ _ _ _ _ _ c.find_definition.ensures c.in_default.is c.at.ensures

pub returns-then-is_again : goal.returns-then-is_again
returns-then-is_again c = class_again _ _ _ _ _ _ _ _ (found_at c.requires.0 c.find_definition.ensures c.in-Some.is) c.is_again.ensures c.if-is_again.true c.at-then-is_again.ensures

pub end_of_parameters-end-requires : goal.end_of_parameters-end-requires
end_of_parameters-end-requires c =
    let pre = c.requires in
    let found = found_at pre.0 c.find_definition.ensures c.in-Some.is in
    (pre.0.manifest, class_start pre.0 (class_stands found) c.first_parameter-first.ensures)

pub check_parameters-requires : goal.check_parameters-requires
check_parameters-requires c =
    let pre = c.requires in
    let found = found_at pre.0 c.find_definition.ensures c.in-Some.is in
    (pre.0.manifest, (pre.1.0.1, block_place pre.0 (class_parts pre.0 (class_stands found) c.first_parameter-first.ensures c.end_of_parameters-end.ensures)))

pub returns-in_err-check_parameters : goal.returns-in_err-check_parameters
returns-in_err-check_parameters c =
    let pre = c.requires in
    let found = found_at pre.0 c.find_definition.ensures c.in-Some.is in
    let handed_on : c.from_residual.result ≡ Err c.in_err-check_parameters.field-0.0 = grind arith in
    rw handed_on (class_unchecked _ _ _ _ _ _ _ _ found c.is_again.ensures c.if-is_again.false c.first_parameter-first.ensures (class_parts pre.0 (class_stands found) c.first_parameter-first.ensures c.end_of_parameters-end.ensures) c.check_parameters.ensures _ c.in_err-check_parameters.was)

pub returns : goal.returns
returns c =
    let pre = c.requires in
    let found = found_at pre.0 c.find_definition.ensures c.in-Some.is in
    class_checked _ _ _ _ _ _ _ _ found c.is_again.ensures c.if-is_again.false c.first_parameter-first.ensures (class_parts pre.0 (class_stands found) c.first_parameter-first.ensures c.end_of_parameters-end.ensures) c.check_parameters.ensures c.in_ok-check_parameters.was
