-- `start_class`: a parameter refused, or all assigned.
use mathlib.Core.Path.{◌≡◌}
use Rattle.std.specs.Prelude.{Err}
use native.Mathlib.Omega.{arith}
use Rattle.declarations.proofs.Classes.{class_stopped, class_started}
use Rattle.declarations.proofs.Standing.{class_small, parent_small, class_place, class_start, class_parts, block_place}
use Rattle.declarations.proofs.start_class.Goals as goal

pub class_base-base_is_node-requires : goal.class_base-base_is_node-requires
class_base-base_is_node-requires c = let pre = c.requires in ((pre.0.memory, class_place pre.0 pre.1), parent_small pre.0.strings pre.1)

pub parent_scope-parent-requires : goal.parent_scope-parent-requires
parent_scope-parent-requires c = let pre = c.requires in (class_place pre.0 pre.1, parent_small pre.0.strings pre.1)

pub declare_class-requires : goal.declare_class-requires
declare_class-requires c = let pre = c.requires in (pre.0.memory, omega (arith, c.two_at-name.ensures, class_small pre.0.strings pre.1))

pub first_parameter-first-requires : goal.first_parameter-first-requires
first_parameter-first-requires c = let pre = c.requires in class_place pre.0 pre.1

pub end_of_parameters-block-requires : goal.end_of_parameters-block-requires
end_of_parameters-block-requires c = let pre = c.requires in (pre.0.manifest, class_start pre.0 pre.1 c.first_parameter-first.ensures)

pub overflow_add-scope : goal.overflow_add-scope
overflow_add-scope c = let pre = c.requires in omega (arith, c.two_at-name.ensures, class_small pre.0.strings pre.1)

pub assign_parameters-requires : goal.assign_parameters-requires
assign_parameters-requires c =
    let pre = c.requires in
    let parts = class_parts pre.0 pre.1 c.first_parameter-first.ensures c.end_of_parameters-block.ensures in
    ((block_place pre.0 parts, (omega (arith, pre.0.memory), pre.0.manifest)), (parts.laid.parameters, parts.laid.small))

pub returns-in_err-assign_parameters : goal.returns-in_err-assign_parameters
returns-in_err-assign_parameters c =
    let pre = c.requires in
    let parts = class_parts pre.0 pre.1 c.first_parameter-first.ensures c.end_of_parameters-block.ensures in
    let handed_on : c.from_residual.result ≡ Err c.in_err-assign_parameters.field-0.0 = grind arith in
    rw handed_on (class_stopped _ _ _ _ _ _ _ c.two_at-name.ensures (class_small pre.0.strings pre.1) c.parent_scope-parent.ensures c.class_base-base_is_node.ensures c.declare_class.ensures c.first_parameter-first.ensures parts c.assign_parameters.ensures _ c.in_err-assign_parameters.was)

pub returns : goal.returns
returns c =
    let pre = c.requires in
    let parts = class_parts pre.0 pre.1 c.first_parameter-first.ensures c.end_of_parameters-block.ensures in
    class_started _ _ _ _ _ _ _ c.two_at-name.ensures (class_small pre.0.strings pre.1) c.parent_scope-parent.ensures c.class_base-base_is_node.ensures c.declare_class.ensures c.first_parameter-first.ensures parts c.assign_parameters.ensures c.in_ok-assign_parameters.was
