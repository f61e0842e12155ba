-- The cycle of blocks, statements and declarations: the answers of each member.
use mathlib.Core.Path.{ap, ◌≡◌, ◌∙◌, refl, sym}
use Prim.Native.Nat.{suc, ◌-◌}
use native.Mathlib.Omega.{arith}
use Rattle.execution.proofs.Ends.{able_after, able_kept, able_preserved}
use Rattle.execution.proofs.Classes.{class_too_deep, found_stands, check_refused, parent_refused, class_meanwhile, class_entered, parent_name, class_near, nothing_given, no_parent_lem, parent_declared, parent_no_step, parent_declares, enter_refused, enter_runs, class_body_stands, class_name, class_attributes, class_refused, class_declares, include_declared, include_declares}
use Rattle.rules.specs.Run.{declaration_place}
use Rattle.execution.proofs.Types.{too_deep, type_refused, type_runs_body, type_body_stands, defined_name_lem, defined_refused, defined_declares, body_refused, body_done}
use Rattle.execution.proofs.Tables.{not_class, fresh_class, fresh_defined, table_none, table_all, table_below}
use Rattle.places.proofs.Open.{level, header_within}
use Rattle.evaluator.proofs.Expressions.{resized}
use Rattle.execution.proofs.Statements.{sized, is_include, include_runs_here, include_known, testable, case_block, case_refused, case_passed, case_chosen, if_refused, if_goes_on, if_place, if_block, no_step, step_taken}
use Rattle.branches.proofs.Standing.{has_level, sibling_here}
use Rattle.execution.proofs.Blocks.{block_begins, block_ends, block_stops, block_goes_on, block_empty}
use Rattle.execution.specs.Executed.{after_name, after_title}
use Rattle.execution.proofs.+declare_class_declare_parent_declare_type_enter_class_gather_gather_class_gather_type_run_begun_run_block_run_body_run_case_run_class_run_given_run_if_run_include_run_statement_run_type.Goals as goal
use Rattle.std.specs.Prelude.{Err}

pub declare_class-at-requires : goal.declare_class-at-requires
declare_class-at-requires t c = c.requires.1.0.0

pub declare_class-returns-then-levels-eq0 : goal.declare_class-returns-then-levels-eq0
declare_class-returns-then-levels-eq0 t c = λ gs gives alikes empty. class_too_deep _ _ _ gs c.if-levels-eq0.true (ap Err c.at.ensures)

pub declare_class-check_class-requires : goal.declare_class-check_class-requires
declare_class-check_class-requires t c = (c.requires.0.set, c.requires.1)

pub declare_class-returns-in_err-d : goal.declare_class-returns-in_err-d
declare_class-returns-in_err-d t c =
    let up : c.args.levels ≡ suc (c.args.levels - 1) = omega (arith, c.if-levels-eq0.false) in
    let handed_on : c.from_residual.result ≡ Err c.in_err-d.field-0.0 = grind arith in
    λ gs gives alikes empty. rw handed_on (check_refused _ up c.check_class.ensures c.in_err-d.was gs gives alikes empty)

pub declare_class-overflow_sub-levels : goal.declare_class-overflow_sub-levels
declare_class-overflow_sub-levels t c = omega (arith, c.if-levels-eq0.false)

pub declare_class-declare_parent-requires : goal.declare_class-declare_parent-requires
declare_class-declare_parent-requires t c =
    let up : c.args.levels ≡ suc (c.args.levels - 1) = omega (arith, c.if-levels-eq0.false) in
    (omega (arith, c.if-levels-eq0.false), (c.requires.0, found_stands _ up c.check_class.ensures c.in_ok-d.was))

pub declare_class-shape_of-work-in_err-filled : goal.declare_class-shape_of-work-in_err-filled
declare_class-shape_of-work-in_err-filled t c = c.declare_parent.auto.work

pub declare_class-shape_of-out-in_err-filled : goal.declare_class-shape_of-out-in_err-filled
declare_class-shape_of-out-in_err-filled t c = c.declare_parent.auto.out

pub declare_class-returns-in_err-filled : goal.declare_class-returns-in_err-filled
declare_class-returns-in_err-filled t c =
    let up : c.args.levels ≡ suc (c.args.levels - 1) = omega (arith, c.if-levels-eq0.false) in
    let handed_on : c.from_residual-in_err-filled.result ≡ c.declare_parent.result = grind arith in
    λ gs gives alikes empty. rw handed_on (parent_refused _ up c.check_class.ensures c.in_ok-d.was gs gives alikes empty c.declare_parent.ensures c.in_err-filled.was)

pub declare_class-is_declared-requires : goal.declare_class-is_declared-requires
declare_class-is_declared-requires t c = ((able_after c.in_ok-filled.was c.declare_parent.ensures.able).set.memory, c.requires.1.1)

pub declare_class-declared_meanwhile-requires : goal.declare_class-declared_meanwhile-requires
declare_class-declared_meanwhile-requires t c = c.requires.1.0.0

pub declare_class-shape_of-work-then-is_declared : goal.declare_class-shape_of-work-then-is_declared
declare_class-shape_of-work-then-is_declared t c = c.declare_parent.auto.work

pub declare_class-shape_of-out-then-is_declared : goal.declare_class-shape_of-out-then-is_declared
declare_class-shape_of-out-then-is_declared t c = c.declare_parent.auto.out

pub declare_class-returns-then-is_declared : goal.declare_class-returns-then-is_declared
declare_class-returns-then-is_declared t c =
    let up : c.args.levels ≡ suc (c.args.levels - 1) = omega (arith, c.if-levels-eq0.false) in
    λ gs gives alikes empty. class_meanwhile _ up c.check_class.ensures c.in_ok-d.was gs gives alikes empty c.declare_parent.ensures c.in_ok-filled.was c.is_declared.ensures c.if-is_declared.true c.declared_meanwhile.ensures

pub declare_class-overflow_sub-levels-2 : goal.declare_class-overflow_sub-levels-2
declare_class-overflow_sub-levels-2 t c = omega (arith, c.if-levels-eq0.false)

pub declare_class-enter_class-requires : goal.declare_class-enter_class-requires
declare_class-enter_class-requires t c =
    let up : c.args.levels ≡ suc (c.args.levels - 1) = omega (arith, c.if-levels-eq0.false) in
    (omega (arith, c.if-levels-eq0.false, c.declare_parent.ensures.steps), (able_after c.in_ok-filled.was c.declare_parent.ensures.able, found_stands _ up c.check_class.ensures c.in_ok-d.was))

pub declare_class-shape_of-work : goal.declare_class-shape_of-work
declare_class-shape_of-work t c = c.enter_class.auto.work ∙ c.declare_parent.auto.work

pub declare_class-shape_of-out : goal.declare_class-shape_of-out
declare_class-shape_of-out t c = c.enter_class.auto.out ∙ c.declare_parent.auto.out

pub declare_class-returns : goal.declare_class-returns
declare_class-returns t c =
    let up : c.args.levels ≡ suc (c.args.levels - 1) = omega (arith, c.if-levels-eq0.false) in
    λ gs gives alikes empty. class_entered _ up c.check_class.ensures c.in_ok-d.was gs gives alikes empty c.declare_parent.ensures c.in_ok-filled.was c.is_declared.ensures c.if-is_declared.false c.enter_class.ensures

pub declare_parent-overflow_add-q : goal.declare_parent-overflow_add-q
declare_parent-overflow_add-q t c = omega (arith, class_near c.requires.0.set c.requires.1)

pub declare_parent-returns-then-byte_at-ne53 : goal.declare_parent-returns-then-byte_at-ne53
declare_parent-returns-then-byte_at-ne53 t c = no_parent_lem _ _ _ _ c.byte_at.ensures c.requires.0 c.if-byte_at-ne53.true

pub declare_parent-overflow_add-q-2 : goal.declare_parent-overflow_add-q-2
declare_parent-overflow_add-q-2 t c = omega (arith, class_near c.requires.0.set c.requires.1)

pub declare_parent-is_declared-requires : goal.declare_parent-is_declared-requires
declare_parent-is_declared-requires t c = (c.requires.0.set.memory, omega (arith, c.two_at-name.ensures, parent_name c.requires.0.set c.requires.1 (sym c.byte_at.ensures ∙ c.if-byte_at-ne53.false)))

pub declare_parent-returns-then-is_declared : goal.declare_parent-returns-then-is_declared
declare_parent-returns-then-is_declared t c = parent_declared _ _ _ _ c.byte_at.ensures c.if-byte_at-ne53.false c.two_at-name.ensures c.is_declared.ensures c.requires.0 c.if-is_declared.true

pub declare_parent-at-requires : goal.declare_parent-at-requires
declare_parent-at-requires t c = omega (arith, class_near c.requires.0.set c.requires.1)

pub declare_parent-returns-then-remaining-eq0 : goal.declare_parent-returns-then-remaining-eq0
declare_parent-returns-then-remaining-eq0 t c = parent_no_step _ _ _ _ c.byte_at.ensures c.if-byte_at-ne53.false c.two_at-name.ensures c.is_declared.ensures c.if-is_declared.false c.if-remaining-eq0.true (ap Err c.at.ensures)

pub declare_parent-overflow_sub-left : goal.declare_parent-overflow_sub-left
declare_parent-overflow_sub-left t c = omega (arith, c.if-remaining-eq0.false)

pub declare_parent-declare_class-requires : goal.declare_parent-declare_class-requires
declare_parent-declare_class-requires t c = (omega (arith, c.if-remaining-eq0.false), (c.requires.0, ((omega (arith, class_near c.requires.0.set c.requires.1), omega arith), omega (arith, c.two_at-name.ensures, parent_name c.requires.0.set c.requires.1 (sym c.byte_at.ensures ∙ c.if-byte_at-ne53.false)))))

pub declare_parent-shape_of-work : goal.declare_parent-shape_of-work
declare_parent-shape_of-work t c = c.declare_class.auto.work

pub declare_parent-shape_of-out : goal.declare_parent-shape_of-out
declare_parent-shape_of-out t c = c.declare_class.auto.out

pub declare_parent-returns : goal.declare_parent-returns
declare_parent-returns t c = parent_declares _ _ _ _ c.byte_at.ensures c.if-byte_at-ne53.false c.two_at-name.ensures c.is_declared.ensures c.if-is_declared.false c.if-remaining-eq0.false (nothing_given _ _ _ refl c.declare_class.ensures)

pub declare_type-at-requires : goal.declare_type-at-requires
declare_type-at-requires t c = c.requires.1.0.0

pub declare_type-returns-then-levels-lt1 : goal.declare_type-returns-then-levels-lt1
unfolding declaration_place
declare_type-returns-then-levels-lt1 t c = λ gs gives alikes. too_deep _ (omega (arith, c.if-levels-lt1.true)) (ap Err c.at.ensures)

pub declare_type-overflow_add-p : goal.declare_type-overflow_add-p
declare_type-overflow_add-p t c = omega (arith, c.requires.1.0.0)

pub declare_type-end_of-requires : goal.declare_type-end_of-requires
declare_type-end_of-requires t c = omega (arith, c.requires.1.0.0)

pub declare_type-end_of-requires-2 : goal.declare_type-end_of-requires-2
declare_type-end_of-requires-2 t c = omega (arith, c.requires.1.0.0)

pub declare_type-start_type-requires : goal.declare_type-start_type-requires
declare_type-start_type-requires t c = (c.requires.0.set, ((c.requires.1.0.0, omega (arith, c.end_of-2.ensures, c.requires.1.0.1)), c.requires.1.1))

pub declare_type-run_body-requires : goal.declare_type-run_body-requires
declare_type-run_body-requires t c = (omega (arith, c.if-levels-lt1.false), (able_kept c.start_type.ensures.keeps c.start_type.auto.work c.requires.0, type_body_stands c.start_type.ensures c.in_ok-block.was))

pub declare_type-shape_of-work-in_err-block : goal.declare_type-shape_of-work-in_err-block
declare_type-shape_of-work-in_err-block t c = c.start_type.auto.work

pub declare_type-returns-in_err-block : goal.declare_type-returns-in_err-block
declare_type-returns-in_err-block t c =
    let up : c.args.levels ≡ suc (c.args.levels - 1) = omega (arith, c.if-levels-lt1.false) in
    let handed_on : c.from_residual.result ≡ Err c.in_err-block.field-0.0 = grind arith in
    rw handed_on (type_refused _ _ c.end_of.ensures c.end_of-2.ensures c.body_context-inside.ensures c.start_type.ensures up c.in_err-block.was)

pub declare_type-shape_of-work : goal.declare_type-shape_of-work
declare_type-shape_of-work t c = c.run_body.auto.work ∙ c.start_type.auto.work

pub declare_type-shape_of-out : goal.declare_type-shape_of-out
declare_type-shape_of-out t c = c.run_body.auto.out

pub declare_type-returns : goal.declare_type-returns
declare_type-returns t c =
    let up : c.args.levels ≡ suc (c.args.levels - 1) = omega (arith, c.if-levels-lt1.false) in
    type_runs_body _ _ c.end_of.ensures c.end_of-2.ensures c.body_context-inside.ensures c.start_type.ensures up c.in_ok-block.was c.run_body.ensures

pub enter_class-start_class-requires : goal.enter_class-start_class-requires
enter_class-start_class-requires t c = (c.requires.0.set, c.requires.1)

pub enter_class-run_block-requires : goal.enter_class-run_block-requires
enter_class-run_block-requires t c = (omega arith, (able_kept c.start_class.ensures.keeps c.start_class.auto.work c.requires.0, class_body_stands c.start_class.ensures c.in_ok-body.was))

pub enter_class-shape_of-work-in_err-body : goal.enter_class-shape_of-work-in_err-body
enter_class-shape_of-work-in_err-body t c = c.start_class.auto.work

pub enter_class-returns-in_err-body : goal.enter_class-returns-in_err-body
enter_class-returns-in_err-body t c =
    let handed_on : c.from_residual.result ≡ Err c.in_err-body.field-0.0 = grind arith in
    rw handed_on (enter_refused c.start_class.ensures _ c.in_err-body.was)

pub enter_class-shape_of-work : goal.enter_class-shape_of-work
enter_class-shape_of-work t c = c.run_block.auto.work ∙ c.start_class.auto.work

pub enter_class-shape_of-out : goal.enter_class-shape_of-out
enter_class-shape_of-out t c = c.run_block.auto.out

pub enter_class-returns : goal.enter_class-returns
enter_class-returns t c = enter_runs c.start_class.ensures _ _ c.in_ok-body.was c.run_block.ensures

pub gather-gather_class-requires : goal.gather-gather_class-requires
gather-gather_class-requires t c = (omega arith, (c.requires.0, (sym c.byte_at.ensures ∙ c.if-byte_at-eq40.true, c.requires.1)))

pub gather-shape_of-work-then-byte_at-eq40 : goal.gather-shape_of-work-then-byte_at-eq40
gather-shape_of-work-then-byte_at-eq40 t c = c.gather_class.auto.work

pub gather-shape_of-out-then-byte_at-eq40 : goal.gather-shape_of-out-then-byte_at-eq40
gather-shape_of-out-then-byte_at-eq40 t c = c.gather_class.auto.out

pub gather-shape_of-table-then-byte_at-eq40 : goal.gather-shape_of-table-then-byte_at-eq40
gather-shape_of-table-then-byte_at-eq40 t c = c.gather_class.auto.table

pub gather-returns-then-byte_at-eq40 : goal.gather-returns-then-byte_at-eq40
gather-returns-then-byte_at-eq40 t c = c.gather_class.ensures

pub gather-gather_type-requires : goal.gather-gather_type-requires
gather-gather_type-requires t c = (omega arith, (c.requires.0, (not_class c.requires.1 c.byte_at.ensures c.if-byte_at-eq40.false, c.requires.1)))

pub gather-shape_of-work : goal.gather-shape_of-work
gather-shape_of-work t c = c.gather_type.auto.work

pub gather-shape_of-out : goal.gather-shape_of-out
gather-shape_of-out t c = c.gather_type.auto.out

pub gather-shape_of-table : goal.gather-shape_of-table
gather-shape_of-table t c = c.gather_type.auto.table

pub gather-returns : goal.gather-returns
gather-returns t c = c.gather_type.ensures

pub gather_class-overflow_add-first : goal.gather_class-overflow_add-first
gather_class-overflow_add-first t c = omega (arith, header_within c.requires.0.1.0.stands, c.requires.0.0.set.manifest)

pub gather_class-end_of-end-requires : goal.gather_class-end_of-end-requires
gather_class-end_of-end-requires t c = omega (arith, header_within c.requires.0.1.0.stands, c.requires.0.0.set.manifest)

pub gather_class-overflow_sub-depth : goal.gather_class-overflow_sub-depth
gather_class-overflow_sub-depth t c = omega (arith, level c.requires.0.1.0.stands)

pub gather_class-evaluate_attributes-requires : goal.gather_class-evaluate_attributes-requires
gather_class-evaluate_attributes-requires t c =
    let pre = c.requires in
    ((resized (sized pre.0.0 pre.0.1.0) (omega (arith, c.end_of-end.ensures, pre.0.1.0.stands.ends, pre.0.0.set.manifest)), class_attributes pre.0.1.0 pre.1.0 c.end_of-end.ensures), fresh_class pre.1.0 c.end_of-end.ensures pre.1.1)

pub gather_class-overflow_add-p : goal.gather_class-overflow_add-p
gather_class-overflow_add-p t c = omega (arith, header_within c.requires.0.1.0.stands, c.requires.0.0.set.manifest)

pub gather_class-declare_class-requires : goal.gather_class-declare_class-requires
gather_class-declare_class-requires t c =
    let pre = c.requires in
    (omega arith, (pre.0.0, ((omega (arith, header_within pre.0.1.0.stands, pre.0.0.set.manifest), omega (arith, c.end_of-end.ensures, pre.0.1.0.stands.ends, pre.0.0.set.manifest)), omega (arith, c.two_at.ensures, class_name pre.0.0.set pre.0.1.0 pre.1.0 pre.0.1.1))))

pub gather_class-shape_of-table-in_err-evaluate_attributes : goal.gather_class-shape_of-table-in_err-evaluate_attributes
gather_class-shape_of-table-in_err-evaluate_attributes t c = c.evaluate_attributes.auto.table

pub gather_class-returns-in_err-evaluate_attributes : goal.gather_class-returns-in_err-evaluate_attributes
gather_class-returns-in_err-evaluate_attributes t c =
    let handed_on : c.from_residual.result ≡ Err c.in_err-evaluate_attributes.field-0.0 = grind arith in
    rw handed_on (class_refused c.requires.0.1.0 c.requires.1.0 _ c.end_of-end.ensures c.evaluate_attributes.ensures c.in_err-evaluate_attributes.was)

pub gather_class-shape_of-work : goal.gather_class-shape_of-work
gather_class-shape_of-work t c = c.declare_class.auto.work

pub gather_class-shape_of-out : goal.gather_class-shape_of-out
gather_class-shape_of-out t c = c.declare_class.auto.out

pub gather_class-shape_of-table : goal.gather_class-shape_of-table
gather_class-shape_of-table t c = c.evaluate_attributes.auto.table

pub gather_class-returns : goal.gather_class-returns
gather_class-returns t c = class_declares c.requires.0.1.0 c.requires.1.0 _ c.end_of-end.ensures c.evaluate_attributes.ensures c.in_ok-evaluate_attributes.was c.two_at.ensures c.declare_class.ensures

pub gather_type-evaluate_titled-requires : goal.gather_type-evaluate_titled-requires
gather_type-evaluate_titled-requires t c =
    let pre = c.requires in
    (((sized pre.0.0 pre.0.1.0, pre.0.1.0), pre.1.0), fresh_defined pre.1.0 pre.1.1)

pub gather_type-declare_type-requires : goal.gather_type-declare_type-requires
gather_type-declare_type-requires t c =
    let pre = c.requires in
    (omega arith, (pre.0.0, ((omega (arith, header_within pre.0.1.0.stands, pre.0.0.set.manifest), omega (arith, pre.0.1.0.stands.ends, pre.0.0.set.manifest)), defined_name_lem pre.0.0.set pre.0.1.0 pre.1.0 pre.0.1.1)))

pub gather_type-shape_of-table-in_err-x : goal.gather_type-shape_of-table-in_err-x
gather_type-shape_of-table-in_err-x t c = c.evaluate_titled.auto.table

pub gather_type-returns-in_err-x : goal.gather_type-returns-in_err-x
gather_type-returns-in_err-x t c =
    let handed_on : c.from_residual.result ≡ Err c.in_err-x.field-0.0 = grind arith in
    rw handed_on (defined_refused c.requires.0.1.0 c.requires.1.0 _ c.evaluate_titled.ensures c.in_err-x.was)

pub gather_type-shape_of-work : goal.gather_type-shape_of-work
gather_type-shape_of-work t c = c.declare_type.auto.work

pub gather_type-shape_of-out : goal.gather_type-shape_of-out
gather_type-shape_of-out t c = c.declare_type.auto.out

pub gather_type-shape_of-table : goal.gather_type-shape_of-table
gather_type-shape_of-table t c = c.evaluate_titled.auto.table

pub gather_type-returns : goal.gather_type-returns
gather_type-returns t c = defined_declares c.requires.0.1.0 c.requires.1.0 _ c.evaluate_titled.ensures c.in_ok-x.was c.declare_type.ensures

pub run_begun-run_assignment-requires : goal.run_begun-run_assignment-requires
run_begun-run_assignment-requires t c = (c.requires, sym c.byte_at.ensures ∙ c.in-33.is)

pub run_begun-run_if-requires : goal.run_begun-run_if-requires
run_begun-run_if-requires t c = (omega arith, (c.requires, sym c.byte_at.ensures ∙ c.in-34.is))

pub run_begun-run_case-requires : goal.run_begun-run_case-requires
run_begun-run_case-requires t c = (omega arith, (c.requires, sym c.byte_at.ensures ∙ c.in-35.is))

pub run_begun-run_resource-requires : goal.run_begun-run_resource-requires
run_begun-run_resource-requires t c = (c.requires, sym c.byte_at.ensures ∙ c.in-37.is)

pub run_begun-run_type-requires : goal.run_begun-run_type-requires
run_begun-run_type-requires t c = (omega arith, (c.requires, sym c.byte_at.ensures ∙ c.in-39.is))

pub run_begun-run_class-requires : goal.run_begun-run_class-requires
run_begun-run_class-requires t c = (omega arith, (c.requires, sym c.byte_at.ensures ∙ c.in-40.is))

pub run_begun-run_include-requires : goal.run_begun-run_include-requires
run_begun-run_include-requires t c =
    let tag = is_include c.requires.1.0 c.byte_at.ensures (omega arith) (omega arith) (omega arith) (omega arith) (omega arith) (omega arith) in
    (omega arith, (c.requires.0, include_known c.requires.0 c.requires.1.0 c.requires.1.1 tag))

pub run_begun-shape_of-work-in-33 : goal.run_begun-shape_of-work-in-33
run_begun-shape_of-work-in-33 t c = c.run_assignment.auto.work

pub run_begun-returns-in-33 : goal.run_begun-returns-in-33
run_begun-returns-in-33 t c = c.run_assignment.ensures _ _

pub run_begun-shape_of-work-in-34 : goal.run_begun-shape_of-work-in-34
run_begun-shape_of-work-in-34 t c = c.run_if.auto.work

pub run_begun-shape_of-out-in-34 : goal.run_begun-shape_of-out-in-34
run_begun-shape_of-out-in-34 t c = c.run_if.auto.out

pub run_begun-returns-in-34 : goal.run_begun-returns-in-34
run_begun-returns-in-34 t c = c.run_if.ensures

pub run_begun-shape_of-work-in-35 : goal.run_begun-shape_of-work-in-35
run_begun-shape_of-work-in-35 t c = c.run_case.auto.work

pub run_begun-shape_of-out-in-35 : goal.run_begun-shape_of-out-in-35
run_begun-shape_of-out-in-35 t c = c.run_case.auto.out

pub run_begun-returns-in-35 : goal.run_begun-returns-in-35
run_begun-returns-in-35 t c = c.run_case.ensures

pub run_begun-shape_of-work-in-37 : goal.run_begun-shape_of-work-in-37
run_begun-shape_of-work-in-37 t c = c.run_resource.auto.work

pub run_begun-shape_of-out-in-37 : goal.run_begun-shape_of-out-in-37
run_begun-shape_of-out-in-37 t c = c.run_resource.auto.out

pub run_begun-returns-in-37 : goal.run_begun-returns-in-37
run_begun-returns-in-37 t c = c.run_resource.ensures _ _

pub run_begun-shape_of-work-in-39 : goal.run_begun-shape_of-work-in-39
run_begun-shape_of-work-in-39 t c = c.run_type.auto.work

pub run_begun-shape_of-out-in-39 : goal.run_begun-shape_of-out-in-39
run_begun-shape_of-out-in-39 t c = c.run_type.auto.out

pub run_begun-returns-in-39 : goal.run_begun-returns-in-39
run_begun-returns-in-39 t c = c.run_type.ensures

pub run_begun-shape_of-work-in-40 : goal.run_begun-shape_of-work-in-40
run_begun-shape_of-work-in-40 t c = c.run_class.auto.work

pub run_begun-shape_of-out-in-40 : goal.run_begun-shape_of-out-in-40
run_begun-shape_of-out-in-40 t c = c.run_class.auto.out

pub run_begun-returns-in-40 : goal.run_begun-returns-in-40
run_begun-returns-in-40 t c = c.run_class.ensures

pub run_begun-shape_of-work-in_default : goal.run_begun-shape_of-work-in_default
run_begun-shape_of-work-in_default t c = c.run_include.auto.work

pub run_begun-shape_of-out-in_default : goal.run_begun-shape_of-out-in_default
run_begun-shape_of-out-in_default t c = c.run_include.auto.out

pub run_begun-returns-in_default : goal.run_begun-returns-in_default
run_begun-returns-in_default t c =
    let tag = is_include c.requires.1.0 c.byte_at.ensures (omega arith) (omega arith) (omega arith) (omega arith) (omega arith) (omega arith) in
    include_runs_here _ c.requires.1.0 tag c.run_include.ensures

pub run_block-end_of-end-requires : goal.run_block-end_of-end-requires
run_block-end_of-end-requires t c = omega (arith, (sized c.requires.0 c.requires.1.0).place)

pub run_block-overflow_add-q : goal.run_block-overflow_add-q
run_block-overflow_add-q t c = omega (arith, (sized c.requires.0 c.requires.1.0).place)

pub run_block-loop-q-init : goal.run_block-loop-q-init
run_block-loop-q-init t c = block_begins _ _ c.requires.0 c.requires.1.0 c.requires.1.1 c.end_of-end.ensures

pub run_block-overflow_sub-depth : goal.run_block-overflow_sub-depth
run_block-overflow_sub-depth t c = omega (arith, has_level c.requires.1.0)

pub run_block-run_statement-requires : goal.run_block-run_statement-requires
run_block-run_statement-requires t c = (omega (arith, has_level c.requires.1.0, c.loop-q.invariant.steps), (c.loop-q.invariant.able, (sibling_here c.loop-q.invariant.siblings c.loop-q-test.true, c.loop-q.invariant.names)))

pub run_block-shape_of-work-in_err-filled : goal.run_block-shape_of-work-in_err-filled
run_block-shape_of-work-in_err-filled t c = c.run_statement.auto.work ∙ c.loop-q.invariant.size

pub run_block-shape_of-out-in_err-filled : goal.run_block-shape_of-out-in_err-filled
run_block-shape_of-out-in_err-filled t c = c.run_statement.auto.out ∙ c.loop-q.invariant.long

pub run_block-returns-in_err-filled : goal.run_block-returns-in_err-filled
run_block-returns-in_err-filled t c =
    let handed_on : c.from_residual.result ≡ c.run_statement.result = grind arith in
    rw handed_on (block_stops c.loop-q.invariant c.loop-q-test.true c.run_statement.ensures c.in_err-filled.was)

pub run_block-end_of-q-requires : goal.run_block-end_of-q-requires
run_block-end_of-q-requires t c = omega (arith, (sized c.loop-q.invariant.able (sibling_here c.loop-q.invariant.siblings c.loop-q-test.true)).place)

pub run_block-loop-q-smaller : goal.run_block-loop-q-smaller
run_block-loop-q-smaller t c = omega (arith, c.loop-q-test.true, c.end_of-q.ensures)

pub run_block-loop-q-preserved : goal.run_block-loop-q-preserved
run_block-loop-q-preserved t c = block_goes_on c.loop-q.invariant c.loop-q-test.true c.run_statement.ensures c.in_ok-filled.was c.run_statement.auto.work c.run_statement.auto.out c.end_of-q.ensures

pub run_block-shape_of-work : goal.run_block-shape_of-work
run_block-shape_of-work t c = c.loop-q.invariant.size

pub run_block-shape_of-out : goal.run_block-shape_of-out
run_block-shape_of-out t c = c.loop-q.invariant.long

pub run_block-returns : goal.run_block-returns
run_block-returns t c = block_ends c.loop-q.invariant c.loop-q-test.false

pub run_body-run_block-requires : goal.run_body-run_block-requires
run_body-run_block-requires t c = (omega arith, c.requires)

pub run_body-free_scope-requires : goal.run_body-free_scope-requires
run_body-free_scope-requires t c = let able = able_after c.in_ok-filled.was c.run_block.ensures.able in (able.set.memory, able.fine)

pub run_body-shape_of-work-in_err-filled : goal.run_body-shape_of-work-in_err-filled
run_body-shape_of-work-in_err-filled t c = c.run_block.auto.work

pub run_body-shape_of-out-in_err-filled : goal.run_body-shape_of-out-in_err-filled
run_body-shape_of-out-in_err-filled t c = c.run_block.auto.out

pub run_body-returns-in_err-filled : goal.run_body-returns-in_err-filled
run_body-returns-in_err-filled t c =
    let handed_on : c.from_residual.result ≡ Err c.in_err-filled.field-0.0 = grind arith in
    rw handed_on (body_refused _ _ c.run_block.ensures c.in_err-filled.was)

pub run_body-shape_of-work : goal.run_body-shape_of-work
run_body-shape_of-work t c = c.free_scope.auto.work ∙ c.run_block.auto.work

pub run_body-shape_of-out : goal.run_body-shape_of-out
run_body-shape_of-out t c = c.run_block.auto.out

pub run_body-returns : goal.run_body-returns
run_body-returns t c = body_done _ _ c.run_block.ensures c.in_ok-filled.was c.free_scope.ensures c.free_scope.auto.work

pub run_case-test_case-requires : goal.run_case-test_case-requires
run_case-test_case-requires t c = ((sized c.requires.0.0 c.requires.0.1.0, testable c.requires.0.0 c.requires.0.1.0 c.requires.0.1.1), c.requires.1)

pub run_case-is_empty_block-requires : goal.run_case-is_empty_block-requires
run_case-is_empty_block-requires t c = omega (arith, (sized (able_preserved c.test_case.ensures.0.keeps c.test_case.auto.work c.requires.0.0) (case_block _ c.requires.0.1.0 c.requires.0.1.1 c.requires.1 c.in_ok-branch.was c.in-Some.is c.test_case.ensures.1).1.0).place)

pub run_case-shape_of-work-then-is_empty_block : goal.run_case-shape_of-work-then-is_empty_block
run_case-shape_of-work-then-is_empty_block t c = c.test_case.auto.work

pub run_case-returns-then-is_empty_block : goal.run_case-returns-then-is_empty_block
run_case-returns-then-is_empty_block t c =
    let i = case_block _ c.requires.0.1.0 c.requires.0.1.1 c.requires.1 c.in_ok-branch.was c.in-Some.is c.test_case.ensures.1 in
    case_chosen _ c.requires.0.1.0 c.requires.1 _ c.test_case.ensures.0 _ c.in_ok-branch.was c.in-Some.is refl refl (block_empty _ _ (able_preserved c.test_case.ensures.0.keeps c.test_case.auto.work c.requires.0.0) i.1.0 i.1.1 c.is_empty_block.ensures c.if-is_empty_block.true)

pub run_case-overflow_sub-depth : goal.run_case-overflow_sub-depth
run_case-overflow_sub-depth t c = (case_block _ c.requires.0.1.0 c.requires.0.1.1 c.requires.1 c.in_ok-branch.was c.in-Some.is c.test_case.ensures.1).0

pub run_case-run_block-requires : goal.run_case-run_block-requires
run_case-run_block-requires t c =
    let i = case_block _ c.requires.0.1.0 c.requires.0.1.1 c.requires.1 c.in_ok-branch.was c.in-Some.is c.test_case.ensures.1 in
    (omega (arith, i.0), (able_preserved c.test_case.ensures.0.keeps c.test_case.auto.work c.requires.0.0, i.1))

pub run_case-shape_of-work-in_err-branch : goal.run_case-shape_of-work-in_err-branch
run_case-shape_of-work-in_err-branch t c = c.test_case.auto.work

pub run_case-returns-in_err-branch : goal.run_case-returns-in_err-branch
run_case-returns-in_err-branch t c =
    let handed_on : c.from_residual.result ≡ Err c.in_err-branch.field-0.0 = grind arith in
    rw handed_on (case_refused _ c.requires.0.1.0 c.requires.1 _ c.test_case.ensures.0 _ _ c.in_err-branch.was)

pub run_case-shape_of-work-in_default : goal.run_case-shape_of-work-in_default
run_case-shape_of-work-in_default t c = c.test_case.auto.work

pub run_case-returns-in_default : goal.run_case-returns-in_default
run_case-returns-in_default t c = case_passed _ c.requires.0.1.0 c.requires.1 _ c.test_case.ensures.0 _ _ c.requires.0.0 c.test_case.auto.work c.in_ok-branch.was c.in_default.is

pub run_case-shape_of-work : goal.run_case-shape_of-work
run_case-shape_of-work t c = c.run_block.auto.work ∙ c.test_case.auto.work

pub run_case-shape_of-out : goal.run_case-shape_of-out
run_case-shape_of-out t c = c.run_block.auto.out

pub run_case-returns : goal.run_case-returns
run_case-returns t c = case_chosen _ c.requires.0.1.0 c.requires.1 _ c.test_case.ensures.0 _ c.in_ok-branch.was c.in-Some.is refl c.branch_context-inside.ensures c.run_block.ensures

pub run_class-overflow_add-first : goal.run_class-overflow_add-first
run_class-overflow_add-first t c = omega (arith, header_within c.requires.0.1.0.stands, c.requires.0.0.set.manifest)

pub run_class-end_of-requires : goal.run_class-end_of-requires
run_class-end_of-requires t c = omega (arith, header_within c.requires.0.1.0.stands, c.requires.0.0.set.manifest)

pub run_class-gather_class-requires : goal.run_class-gather_class-requires
run_class-gather_class-requires t c = (omega arith, (c.requires.0, (c.requires.1, table_none 1 (after_name c.requires.1 refl) c.end_of.ensures c.if-end_of-first.true)))

pub run_class-shape_of-work-then-end_of-first : goal.run_class-shape_of-work-then-end_of-first
run_class-shape_of-work-then-end_of-first t c = c.gather_class.auto.work

pub run_class-shape_of-out-then-end_of-first : goal.run_class-shape_of-out-then-end_of-first
run_class-shape_of-out-then-end_of-first t c = c.gather_class.auto.out

pub run_class-returns-then-end_of-first : goal.run_class-returns-then-end_of-first
run_class-returns-then-end_of-first t c = c.gather_class.ensures

pub run_class-run_given-requires : goal.run_class-run_given-requires
run_class-run_given-requires t c = (omega arith, (c.requires.0, after_name c.requires.1 refl))

pub run_class-shape_of-work : goal.run_class-shape_of-work
run_class-shape_of-work t c = c.run_given.auto.work

pub run_class-shape_of-out : goal.run_class-shape_of-out
run_class-shape_of-out t c = c.run_given.auto.out

pub run_class-returns : goal.run_class-returns
run_class-returns t c = c.run_given.ensures

pub run_given-end_of-end-requires : goal.run_given-end_of-end-requires
run_given-end_of-end-requires t c = omega (arith, header_within c.requires.0.1.0.stands, c.requires.0.0.set.manifest)

pub run_given-has_name_from-requires : goal.run_given-has_name_from-requires
run_given-has_name_from-requires t c = omega (arith, c.end_of-end.ensures, c.requires.0.1.0.stands.ends, c.requires.0.0.set.manifest)

pub run_given-gather-requires : goal.run_given-gather-requires
run_given-gather-requires t c = (omega arith, (c.requires.0, table_all 49152 (omega arith) c.requires.1))

pub run_given-shape_of-work-then-has_name_from : goal.run_given-shape_of-work-then-has_name_from
run_given-shape_of-work-then-has_name_from t c = c.gather.auto.work

pub run_given-shape_of-out-then-has_name_from : goal.run_given-shape_of-out-then-has_name_from
run_given-shape_of-out-then-has_name_from t c = c.gather.auto.out

pub run_given-returns-then-has_name_from : goal.run_given-returns-then-has_name_from
run_given-returns-then-has_name_from t c = c.gather.ensures

pub run_given-gather-requires-2 : goal.run_given-gather-requires-2
run_given-gather-requires-2 t c = (omega arith, (c.requires.0, table_below 3072 64 (omega arith) c.requires.1 c.end_of-end.ensures c.has_name_from.ensures c.if-has_name_from.false))

pub run_given-shape_of-work : goal.run_given-shape_of-work
run_given-shape_of-work t c = c.gather-2.auto.work

pub run_given-shape_of-out : goal.run_given-shape_of-out
run_given-shape_of-out t c = c.gather-2.auto.out

pub run_given-returns : goal.run_given-returns
run_given-returns t c = c.gather-2.ensures

pub run_if-test_if-requires : goal.run_if-test_if-requires
run_if-test_if-requires t c = ((sized c.requires.0.0 c.requires.0.1.0, testable c.requires.0.0 c.requires.0.1.0 c.requires.0.1.1), c.requires.1)

pub run_if-chosen_block-block-requires : goal.run_if-chosen_block-block-requires
run_if-chosen_block-block-requires t c = if_place c.requires.0.0 c.requires.0.1.0 c.requires.1

pub run_if-is_empty_block-requires : goal.run_if-is_empty_block-requires
run_if-is_empty_block-requires t c = omega (arith, (sized (able_preserved c.test_if.ensures.keeps c.test_if.auto.work c.requires.0.0) (if_block c.in_ok-branch.branch.yes c.requires.0.1.0 c.requires.0.1.1 c.requires.1 c.chosen_block-block.ensures).0).place)

pub run_if-shape_of-work-then-is_empty_block : goal.run_if-shape_of-work-then-is_empty_block
run_if-shape_of-work-then-is_empty_block t c = c.test_if.auto.work

pub run_if-returns-then-is_empty_block : goal.run_if-returns-then-is_empty_block
run_if-returns-then-is_empty_block t c =
    let block = if_block c.in_ok-branch.branch.yes c.requires.0.1.0 c.requires.0.1.1 c.requires.1 c.chosen_block-block.ensures in
    if_goes_on _ c.requires.0.1.0 c.requires.1 _ c.test_if.ensures _ c.in_ok-branch.was c.chosen_block-block.ensures refl (block_empty _ _ (able_preserved c.test_if.ensures.keeps c.test_if.auto.work c.requires.0.0) block.0 block.1 c.is_empty_block.ensures c.if-is_empty_block.true)

pub run_if-overflow_sub-depth : goal.run_if-overflow_sub-depth
run_if-overflow_sub-depth t c = omega (arith, has_level c.requires.0.1.0)

pub run_if-run_block-requires : goal.run_if-run_block-requires
run_if-run_block-requires t c = (omega (arith, has_level c.requires.0.1.0), (able_preserved c.test_if.ensures.keeps c.test_if.auto.work c.requires.0.0, if_block c.in_ok-branch.branch.yes c.requires.0.1.0 c.requires.0.1.1 c.requires.1 c.chosen_block-block.ensures))

pub run_if-shape_of-work-in_err-branch : goal.run_if-shape_of-work-in_err-branch
run_if-shape_of-work-in_err-branch t c = c.test_if.auto.work

pub run_if-returns-in_err-branch : goal.run_if-returns-in_err-branch
run_if-returns-in_err-branch t c =
    let handed_on : c.from_residual.result ≡ Err c.in_err-branch.field-0.0 = grind arith in
    rw handed_on (if_refused _ c.requires.0.1.0 c.requires.1 _ c.test_if.ensures _ _ c.in_err-branch.was)

pub run_if-shape_of-work : goal.run_if-shape_of-work
run_if-shape_of-work t c = c.run_block.auto.work ∙ c.test_if.auto.work

pub run_if-shape_of-out : goal.run_if-shape_of-out
run_if-shape_of-out t c = c.run_block.auto.out

pub run_if-returns : goal.run_if-returns
run_if-returns t c = if_goes_on _ c.requires.0.1.0 c.requires.1 _ c.test_if.ensures _ c.in_ok-branch.was c.chosen_block-block.ensures c.branch_context-inside.ensures c.run_block.ensures

pub run_include-overflow_add-p : goal.run_include-overflow_add-p
run_include-overflow_add-p t c = omega (arith, c.requires.1.0)

pub run_include-is_declared-requires : goal.run_include-is_declared-requires
run_include-is_declared-requires t c = (c.requires.0.set.memory, omega (arith, c.two_at-name.ensures, c.requires.1.1))

pub run_include-returns-then-is_declared : goal.run_include-returns-then-is_declared
run_include-returns-then-is_declared t c = include_declared _ _ _ _ c.two_at-name.ensures c.is_declared.ensures c.requires.0 c.if-is_declared.true

pub run_include-declare_class-requires : goal.run_include-declare_class-requires
run_include-declare_class-requires t c = (omega arith, (c.requires.0, ((omega (arith, c.requires.1.0), omega arith), omega (arith, c.two_at-name.ensures, c.requires.1.1))))

pub run_include-shape_of-work : goal.run_include-shape_of-work
run_include-shape_of-work t c = c.declare_class.auto.work

pub run_include-shape_of-out : goal.run_include-shape_of-out
run_include-shape_of-out t c = c.declare_class.auto.out

pub run_include-returns : goal.run_include-returns
run_include-returns t c = include_declares _ _ _ _ c.two_at-name.ensures c.is_declared.ensures c.if-is_declared.false (nothing_given _ _ _ refl c.declare_class.ensures)

pub run_statement-at-requires : goal.run_statement-at-requires
run_statement-at-requires t c = (sized c.requires.0 c.requires.1.0).place

pub run_statement-returns-then-steps-eq0 : goal.run_statement-returns-then-steps-eq0
run_statement-returns-then-steps-eq0 t c = no_step _ _ _ (omega (arith, c.if-steps-eq0.true)) (ap Err c.at.ensures)

pub run_statement-overflow_sub-left : goal.run_statement-overflow_sub-left
run_statement-overflow_sub-left t c = omega (arith, c.if-steps-eq0.false)

pub run_statement-run_begun-requires : goal.run_statement-run_begun-requires
run_statement-run_begun-requires t c = (omega (arith, c.if-steps-eq0.false), c.requires)

pub run_statement-shape_of-work : goal.run_statement-shape_of-work
run_statement-shape_of-work t c = c.run_begun.auto.work

pub run_statement-shape_of-out : goal.run_statement-shape_of-out
run_statement-shape_of-out t c = c.run_begun.auto.out

pub run_statement-returns : goal.run_statement-returns
run_statement-returns t c = step_taken _ _ _ (λ z. omega (arith, c.if-steps-eq0.false, z)) c.run_begun.ensures

pub run_type-overflow_add-p : goal.run_type-overflow_add-p
run_type-overflow_add-p t c = omega (arith, header_within c.requires.0.1.0.stands, c.requires.0.0.set.manifest)

pub run_type-end_of-first-requires : goal.run_type-end_of-first-requires
run_type-end_of-first-requires t c = omega (arith, header_within c.requires.0.1.0.stands, c.requires.0.0.set.manifest)

pub run_type-end_of-requires : goal.run_type-end_of-requires
run_type-end_of-requires t c = omega (arith, header_within c.requires.0.1.0.stands, c.requires.0.0.set.manifest)

pub run_type-gather_type-requires : goal.run_type-gather_type-requires
run_type-gather_type-requires t c = (omega arith, (c.requires.0, (c.requires.1, table_none 1 (after_title c.requires.1 c.end_of-first.ensures) c.end_of.ensures c.if-end_of-first.true)))

pub run_type-shape_of-work-then-end_of-first : goal.run_type-shape_of-work-then-end_of-first
run_type-shape_of-work-then-end_of-first t c = c.gather_type.auto.work

pub run_type-shape_of-out-then-end_of-first : goal.run_type-shape_of-out-then-end_of-first
run_type-shape_of-out-then-end_of-first t c = c.gather_type.auto.out

pub run_type-returns-then-end_of-first : goal.run_type-returns-then-end_of-first
run_type-returns-then-end_of-first t c = c.gather_type.ensures

pub run_type-run_given-requires : goal.run_type-run_given-requires
run_type-run_given-requires t c = (omega arith, (c.requires.0, after_title c.requires.1 c.end_of-first.ensures))

pub run_type-shape_of-work : goal.run_type-shape_of-work
run_type-shape_of-work t c = c.run_given.auto.work

pub run_type-shape_of-out : goal.run_type-shape_of-out
run_type-shape_of-out t c = c.run_given.auto.out

pub run_type-returns : goal.run_type-returns
run_type-returns t c = c.run_given.ensures
