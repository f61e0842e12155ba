-- The cycle of `expression` and what it calls for expressions with parts: each answer by the function whose goal it is.
use mathlib.Core.Path.{◌≡◌, ◌∙◌, refl}
use native.Mathlib.Omega.{arith}
use Rattle.statement_printer.proofs.PrintedExpressions.{stands_at, attribute_read_here, attribute_read_passes, constant_tag_passes, here_below, passes_below, last_tag, negation_here, negation_passes, one_above, operation_here, operation_passes, selector_here, selector_passes, levels, siblings_at}
use Rattle.statement_printer.proofs.PrintedArms.{arm_here, arm_passes, no_arm_yet, arm_stands_lem, one_arm, all_arms}
use Rattle.places.proofs.Open.{level}
use Rattle.statement_printer.proofs.OperatorSigns.{kind_range, level_small}
use Rattle.wire.proofs.Walks.{step_of, here, along, over_end}
use Rattle.statement_printer.proofs.expressions.+arm_arms_attribute_read_expression_negation_operation_selector.Goals as goal

pub arm-overflow_add-q : goal.arm-overflow_add-q
arm-overflow_add-q t c = let o = arm_here c.requires.1 in omega (arith, o.expression.stands.ends, c.requires.0.short)

pub arm-write_pattern-pattern-requires : goal.arm-write_pattern-pattern-requires
arm-write_pattern-pattern-requires t c = (c.requires.0, (arm_here c.requires.1).expression.stands.ends)

pub arm-overflow_add-q-2 : goal.arm-overflow_add-q-2
arm-overflow_add-q-2 t c = let o = arm_here c.requires.1 in omega (arith, o.expression.stands.ends, c.requires.0.short)

pub arm-end_of-requires : goal.arm-end_of-requires
arm-end_of-requires t c = let o = arm_here c.requires.1 in omega (arith, o.expression.stands.ends, c.requires.0.short)

pub arm-expression-requires : goal.arm-expression-requires
arm-expression-requires t c = (omega arith, (c.requires.0, stands_at c.end_of.ensures (arm_here c.requires.1).expression))

pub arm-returns : goal.arm-returns
arm-returns t c = arm_passes _ _ _ _ _ c.requires.1 c.end_of.ensures c.separate-begun.ensures c.write_pattern-pattern.ensures c.write_mark-sign.ensures c.expression.ensures

pub arms-loop-q-init : goal.arms-loop-q-init
arms-loop-q-init t c =
    let at : c.into_iter-q-iterator.result.at ≡ c.args.first = cc in
    (rw at (no_arm_yet _ _ _ _ _ c.requires.1), refl, record { bytes = cc; end = cc })

pub arms-arm-at-requires : goal.arms-arm-at-requires
arms-arm-at-requires t c =
    let along_it = c.loop-q.invariant.2 in
    let so_far = rw (here along_it c.in-Some.ensures.steps) at c.loop-q.invariant.0 in
    (omega arith, (c.requires.0, arm_stands_lem _ _ _ _ _ (step_of along_it c.in-Some.ensures.steps).before so_far))

pub arms-loop-q-preserved : goal.arms-loop-q-preserved
arms-loop-q-preserved t c =
    let along_it = c.loop-q.invariant.2 in
    let step = step_of along_it c.in-Some.ensures.steps in
    let so_far = rw (here along_it c.in-Some.ensures.steps) at c.loop-q.invariant.0 in
    (one_arm _ _ _ _ _ step.before so_far c.arm-at.ensures step.next, c.arm-at.auto.out ∙ c.loop-q.invariant.1, along along_it c.in-Some.ensures.steps)

pub arms-returns : goal.arms-returns
arms-returns t c = all_arms _ _ _ _ _ (over_end c.loop-q.invariant.2 c.in-None.ensures.steps) c.loop-q.invariant.0

pub attribute_read-overflow_add-p : goal.attribute_read-overflow_add-p
attribute_read-overflow_add-p t c = let o = attribute_read_here c.requires in omega (arith, o.title.stands.ends, c.requires.source.short)

pub attribute_read-write_word-kind-requires : goal.attribute_read-write_word-kind-requires
attribute_read-write_word-kind-requires t c = c.requires.source

pub attribute_read-overflow_add-p-2 : goal.attribute_read-overflow_add-p-2
attribute_read-overflow_add-p-2 t c = let o = attribute_read_here c.requires in omega (arith, o.title.stands.ends, c.requires.source.short)

pub attribute_read-expression-title-requires : goal.attribute_read-expression-title-requires
attribute_read-expression-title-requires t c = let o = attribute_read_here c.requires in (omega arith, (c.requires.source, o.title))

pub attribute_read-overflow_add-p-3 : goal.attribute_read-overflow_add-p-3
attribute_read-overflow_add-p-3 t c = let o = attribute_read_here c.requires in omega (arith, o.title.stands.ends, c.requires.source.short)

pub attribute_read-write_word-name-requires : goal.attribute_read-write_word-name-requires
attribute_read-write_word-name-requires t c = c.requires.source

pub attribute_read-returns : goal.attribute_read-returns
attribute_read-returns t c l = attribute_read_passes _ _ l (attribute_read_here c.requires) c.two_at.ensures c.two_at-2.ensures c.write_word-kind.ensures c.write_mark-open.ensures c.expression-title.ensures c.write_mark-close.ensures c.write_mark-again.ensures c.write_word-name.ensures c.write_mark.ensures

pub expression-overflow_sub-below : goal.expression-overflow_sub-below
expression-overflow_sub-below t c = omega (arith, level c.requires.1.stands)

pub expression-write_constant-requires : goal.expression-write_constant-requires
expression-write_constant-requires t c = (c.requires.0, omega (arith, c.requires.1.stands.ends, c.requires.0.short))

pub expression-returns-then-tag-lt19 : goal.expression-returns-then-tag-lt19
expression-returns-then-tag-lt19 t c = constant_tag_passes _ _ _ _ _ c.requires.1 c.byte_at-tag.ensures c.if-tag-lt19.true c.write_constant.ensures

pub expression-write_read-requires : goal.expression-write_read-requires
expression-write_read-requires t c = (c.requires.0, omega (arith, c.requires.1.stands.ends, c.requires.0.short))

pub expression-returns-then-tag-lt22 : goal.expression-returns-then-tag-lt22
expression-returns-then-tag-lt22 t c = c.write_read.ensures _ _ c.requires.1 (omega (arith, c.byte_at-tag.ensures, c.if-tag-lt19.false)) (omega (arith, c.byte_at-tag.ensures, c.if-tag-lt22.true))

pub expression-operation-requires : goal.expression-operation-requires
expression-operation-requires t c = (omega (arith, level c.requires.1.stands), here_below c.requires.0 c.requires.1 c.byte_at-tag.ensures c.in-22.is)

pub expression-negation-requires : goal.expression-negation-requires
expression-negation-requires t c = (omega (arith, level c.requires.1.stands), here_below c.requires.0 c.requires.1 c.byte_at-tag.ensures c.in-23.is)

pub expression-attribute_read-requires : goal.expression-attribute_read-requires
expression-attribute_read-requires t c = (omega (arith, level c.requires.1.stands), here_below c.requires.0 c.requires.1 c.byte_at-tag.ensures c.in-24.is)

pub expression-selector-requires : goal.expression-selector-requires
expression-selector-requires t c = (omega (arith, level c.requires.1.stands), here_below c.requires.0 c.requires.1 c.byte_at-tag.ensures (last_tag c.requires.1 c.byte_at-tag.ensures c.if-tag-lt22.false (λ e. absurd (omega arith)) (λ e. absurd (omega arith)) (λ e. absurd (omega arith))))

pub expression-returns-in-22 : goal.expression-returns-in-22
expression-returns-in-22 t c = passes_below _ _ _ _ _ c.requires.1 c.operation.ensures

pub expression-returns-in-23 : goal.expression-returns-in-23
expression-returns-in-23 t c = passes_below _ _ _ _ _ c.requires.1 (c.negation.ensures _)

pub expression-returns-in-24 : goal.expression-returns-in-24
expression-returns-in-24 t c = passes_below _ _ _ _ _ c.requires.1 (c.attribute_read.ensures _)

pub expression-returns-in_default : goal.expression-returns-in_default
expression-returns-in_default t c = passes_below _ _ _ _ _ c.requires.1 c.selector.ensures

pub negation-overflow_add-p : goal.negation-overflow_add-p
negation-overflow_add-p t c = let o = negation_here c.requires in omega (arith, o.operand.stands.ends, c.requires.source.short)

pub negation-expression-requires : goal.negation-expression-requires
negation-expression-requires t c = let o = negation_here c.requires in (omega arith, (c.requires.source, o.operand))

pub negation-returns : goal.negation-returns
negation-returns t c l = negation_passes _ _ l (negation_here c.requires) c.write_mark-sign.ensures c.expression.ensures

pub operation-overflow_add-p : goal.operation-overflow_add-p
operation-overflow_add-p t c = let o = operation_here c.requires in omega (arith, o.left.stands.ends, c.requires.source.short)

pub operation-overflow_add-p-2 : goal.operation-overflow_add-p-2
operation-overflow_add-p-2 t c = let o = operation_here c.requires in omega (arith, o.left.stands.ends, c.requires.source.short)

pub operation-expression-left-requires : goal.operation-expression-left-requires
operation-expression-left-requires t c = let o = operation_here c.requires in (omega arith, (c.requires.source, o.left))

pub operation-write_mark-sign-requires : goal.operation-write_mark-sign-requires
operation-write_mark-sign-requires t c = kind_range _ c.operator_kind.ensures

pub operation-overflow_add-p-3 : goal.operation-overflow_add-p-3
operation-overflow_add-p-3 t c = let o = operation_here c.requires in omega (arith, o.left.stands.ends, c.requires.source.short)

pub operation-end_of-requires : goal.operation-end_of-requires
operation-end_of-requires t c = let o = operation_here c.requires in omega (arith, o.left.stands.ends, c.requires.source.short)

pub operation-overflow_add-own : goal.operation-overflow_add-own
operation-overflow_add-own t c = omega (arith, level_small _ c.level_of-own.ensures)

pub operation-expression-right-requires : goal.operation-expression-right-requires
operation-expression-right-requires t c = let o = operation_here c.requires in (omega arith, (c.requires.source, stands_at c.end_of.ensures o.right))

pub operation-returns : goal.operation-returns
operation-returns t c = operation_passes _ _ _ (operation_here c.requires) c.byte_at-op.ensures c.level_of-own.ensures c.operator_kind.ensures (one_above _) c.end_of.ensures c.bracket-before.ensures c.expression-left.ensures c.write_mark-sign.ensures c.expression-right.ensures c.bracket.ensures

pub selector-overflow_add-p : goal.selector-overflow_add-p
selector-overflow_add-p t c = let o = selector_here c.requires in omega (arith, o.scrutinee.stands.ends, o.some, c.requires.stands.stands.ends, c.requires.source.short)

pub selector-expression-value-requires : goal.selector-expression-value-requires
selector-expression-value-requires t c = let o = selector_here c.requires in (omega arith, (c.requires.source, o.scrutinee))

pub selector-overflow_sub-below : goal.selector-overflow_sub-below
selector-overflow_sub-below t c = let o = selector_here c.requires in omega (arith, level o.scrutinee.stands)

pub selector-overflow_add-p-2 : goal.selector-overflow_add-p-2
selector-overflow_add-p-2 t c = let o = selector_here c.requires in omega (arith, o.scrutinee.stands.ends, o.some, c.requires.stands.stands.ends, c.requires.source.short)

pub selector-end_of-requires : goal.selector-end_of-requires
selector-end_of-requires t c = let o = selector_here c.requires in omega (arith, o.scrutinee.stands.ends, o.some, c.requires.stands.stands.ends, c.requires.source.short)

pub selector-end_of-requires-2 : goal.selector-end_of-requires-2
selector-end_of-requires-2 t c = let o = selector_here c.requires in omega (arith, o.scrutinee.stands.ends, o.some, c.requires.stands.stands.ends, c.requires.source.short)

pub selector-arms-all-requires : goal.selector-arms-all-requires
selector-arms-all-requires t c = let o = selector_here c.requires in (omega (arith, level o.scrutinee.stands), (c.requires.source, siblings_at (levels o.scrutinee.stands) c.end_of.ensures c.end_of-2.ensures o.arms, omega (arith, c.end_of-2.ensures, c.requires.stands.stands.ends, c.requires.source.short)))

pub selector-returns : goal.selector-returns
selector-returns t c = let o = selector_here c.requires in selector_passes _ _ _ _ _ _ o c.end_of.ensures c.end_of-2.ensures (levels o.scrutinee.stands) c.bracket-before.ensures c.expression-value.ensures c.write_mark-sign.ensures c.write_mark-open.ensures c.arms-all.ensures c.write_mark-close.ensures c.bracket.ensures
