-- `start_type`: unknown, refused by the parameters, by an assignment, started.
use mathlib.Core.Path.{◌≡◌}
use native.Mathlib.Omega.{arith}
use Rattle.std.specs.Prelude.{Err}
use Rattle.declarations.proofs.Types.{type_unknown, type_unchecked, type_unfilled, type_filled}
use Rattle.declarations.proofs.Standing.{found_at, type_start, type_parts, block_place}
use Rattle.declarations.proofs.start_type.Goals as goal

pub returns-in_default : goal.returns-in_default
returns-in_default c = type_unknown _ _ _ _ _ _ _ _ c.two_at.ensures c.find_definition.ensures c.in_default.is c.at.ensures

pub end_of_parameters-end-requires : goal.end_of_parameters-end-requires
end_of_parameters-end-requires c =
    let pre = c.requires in
    (pre.0.manifest, type_start pre.0 (found_at pre.0 c.find_definition.ensures c.in-Some.is))

pub check_parameters-requires : goal.check_parameters-requires
check_parameters-requires c =
    let pre = c.requires in
    let found = found_at pre.0 c.find_definition.ensures c.in-Some.is in
    (pre.0.manifest, (pre.1.0.1, block_place pre.0 (type_parts pre.0 found c.end_of_parameters-end.ensures)))

pub returns-in_err-check_parameters : goal.returns-in_err-check_parameters
returns-in_err-check_parameters c =
    let pre = c.requires in
    let found = found_at pre.0 c.find_definition.ensures c.in-Some.is in
    let handed_on : c.from_residual.result ≡ Err c.in_err-check_parameters.field-0.0 = grind arith in
    rw handed_on (type_unchecked _ _ _ _ _ _ _ _ c.two_at.ensures found (type_parts pre.0 found c.end_of_parameters-end.ensures) c.check_parameters.ensures _ c.in_err-check_parameters.was)

pub fill_scope-requires : goal.fill_scope-requires
fill_scope-requires c =
    let pre = c.requires in
    let found = found_at pre.0 c.find_definition.ensures c.in-Some.is in
    let parts = type_parts pre.0 found c.end_of_parameters-end.ensures in
    ((pre.1.0.0, block_place pre.0 parts), ((pre.0.memory, pre.0.manifest), (parts.laid.parameters, parts.laid.small)))

pub returns-in_err-fill_scope : goal.returns-in_err-fill_scope
returns-in_err-fill_scope c =
    let pre = c.requires in
    let found = found_at pre.0 c.find_definition.ensures c.in-Some.is in
    let handed_on : c.from_residual-in_err-fill_scope.result ≡ Err c.in_err-fill_scope.field-0.0 = grind arith in
    rw handed_on (type_unfilled _ _ _ _ _ _ _ _ c.two_at.ensures found (type_parts pre.0 found c.end_of_parameters-end.ensures) c.check_parameters.ensures c.in_ok-check_parameters.was c.fill_scope.ensures _ c.in_err-fill_scope.was)

pub returns : goal.returns
returns c =
    let pre = c.requires in
    let found = found_at pre.0 c.find_definition.ensures c.in-Some.is in
    type_filled _ _ _ _ _ _ _ _ c.two_at.ensures found (type_parts pre.0 found c.end_of_parameters-end.ensures) c.check_parameters.ensures c.in_ok-check_parameters.was c.fill_scope.ensures c.in_ok-fill_scope.was
