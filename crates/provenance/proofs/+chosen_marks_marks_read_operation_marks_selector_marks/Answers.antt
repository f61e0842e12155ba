-- The cycle of `marks_read` and what it calls for expressions with parts: the measures and the answers of each member stand in the files below.
use mathlib.Core.Path.{refl}
use native.Mathlib.Omega.{arith}
use Rattle.labels.specs.Sets.{no_labels}
use Rattle.evaluator.proofs.Expressions.{resized}
use Rattle.provenance.proofs.Operands.{is_refused_lem}
use Rattle.provenance.proofs.Selectors.{chooses_none, chooses_one, scrutinee_refused, arm_read}
use Rattle.provenance.proofs.Leaves.{no_level, marks_constant, marks_operation, marks_negation, marks_attribute, marks_selector}
use Rattle.provenance.proofs.Expressions.{right_skipped, right_read}
use Rattle.evaluator.proofs.Fresh.{fresh_refusal, fresh_value}
use Rattle.evaluator.proofs.Selectors.{selector_deep}
use Rattle.provenance.proofs.+chosen_marks_marks_read_operation_marks_selector_marks.Goals as goal

pub chosen_marks-try_patterns-requires : goal.chosen_marks-try_patterns-requires
chosen_marks-try_patterns-requires t c = (c.requires.place, refl)

pub chosen_marks-marks_read-requires : goal.chosen_marks-marks_read-requires
chosen_marks-marks_read-requires t c = (omega arith, resized c.requires c.place.ensures.0)

pub chosen_marks-returns-in_default : goal.chosen_marks-returns-in_default
unfolding no_labels
chosen_marks-returns-in_default t c = λ d e s. chooses_none _ _ _ _ _ d _ _ _ c.try_patterns.ensures c.in_default.is

pub chosen_marks-returns : goal.chosen_marks-returns
chosen_marks-returns t c = λ d e s. chooses_one _ _ _ _ _ d _ _ _ c.try_patterns.ensures e c.requires.manifest s c.in-Some.is c.place.ensures c.marks_read.ensures

pub marks_read-returns-then-depth-eq0 : goal.marks_read-returns-then-depth-eq0
marks_read-returns-then-depth-eq0 t c = no_level _ _ _ _ _ _ _ c.if-depth-eq0.true

pub marks_read-overflow_sub-below : goal.marks_read-overflow_sub-below
marks_read-overflow_sub-below t c = omega (arith, c.if-depth-eq0.false)

pub marks_read-returns-then-tag-lt19 : goal.marks_read-returns-then-tag-lt19
unfolding no_labels
marks_read-returns-then-tag-lt19 t c = marks_constant _ _ _ _ _ _ _ c.byte_at-tag.ensures c.if-tag-lt19.true

pub marks_read-variable_marks-requires : goal.marks_read-variable_marks-requires
marks_read-variable_marks-requires t c = (c.requires.memory, c.requires.place)

pub marks_read-returns-then-tag-lt22 : goal.marks_read-returns-then-tag-lt22
marks_read-returns-then-tag-lt22 t c = λ s.
    let tag = c.byte_at-tag.ensures in
    c.variable_marks.ensures _ _ _ s (omega (arith, tag, c.if-tag-lt19.false)) (omega (arith, tag, c.if-tag-lt22.true))

pub marks_read-operation_marks-requires : goal.marks_read-operation_marks-requires
marks_read-operation_marks-requires t c = (omega (arith, c.if-depth-eq0.false), c.requires)

pub marks_read-overflow_add-p : goal.marks_read-overflow_add-p
marks_read-overflow_add-p t c = omega (arith, c.requires.place)

pub marks_read-marks_read-requires : goal.marks_read-marks_read-requires
marks_read-marks_read-requires t c = (omega (arith, c.if-depth-eq0.false), resized c.requires c.place.ensures.0)

pub marks_read-overflow_add-p-in-24 : goal.marks_read-overflow_add-p-in-24
marks_read-overflow_add-p-in-24 t c = omega (arith, c.requires.place)

pub marks_read-marks_read-requires-in-24 : goal.marks_read-marks_read-requires-in-24
marks_read-marks_read-requires-in-24 t c = (omega (arith, c.if-depth-eq0.false), resized c.requires c.place-in-24.ensures.0)

pub marks_read-selector_marks-requires : goal.marks_read-selector_marks-requires
marks_read-selector_marks-requires t c = (omega (arith, c.if-depth-eq0.false), c.requires)

pub marks_read-returns-in-22 : goal.marks_read-returns-in-22
marks_read-returns-in-22 t c = marks_operation _ _ _ _ _ _ _ c.byte_at-tag.ensures c.if-depth-eq0.false c.in-22.is c.operation_marks.ensures

pub marks_read-returns-in-23 : goal.marks_read-returns-in-23
marks_read-returns-in-23 t c = marks_negation _ _ _ _ _ _ _ c.byte_at-tag.ensures c.if-depth-eq0.false c.requires.manifest c.marks_read.ensures c.in-23.is c.place.ensures

pub marks_read-returns-in-24 : goal.marks_read-returns-in-24
marks_read-returns-in-24 t c = marks_attribute _ _ _ _ _ _ _ c.byte_at-tag.ensures c.if-depth-eq0.false c.requires.manifest c.marks_read-in-24.ensures c.in-24.is c.place-in-24.ensures

pub marks_read-returns-in_default : goal.marks_read-returns-in_default
marks_read-returns-in_default t c = marks_selector _ _ _ _ _ _ _ c.byte_at-tag.ensures c.if-depth-eq0.false c.if-tag-lt22.false (omega arith) (omega arith) (omega arith) c.selector_marks.ensures

pub operation_marks-overflow_add-p : goal.operation_marks-overflow_add-p
operation_marks-overflow_add-p t c = omega (arith, c.requires.place)

pub operation_marks-marks_read-left-requires : goal.operation_marks-marks_read-left-requires
operation_marks-marks_read-left-requires t c = (omega arith, resized c.requires c.place.ensures.0)

pub operation_marks-skips_right-requires : goal.operation_marks-skips_right-requires
operation_marks-skips_right-requires t c = c.requires

pub operation_marks-returns-then-skips_right : goal.operation_marks-returns-then-skips_right
operation_marks-returns-then-skips_right t c = λ d o. right_skipped _ _ _ _ _ o c.requires.manifest c.place.ensures c.marks_read-left.ensures c.skips_right.ensures c.if-skips_right.true

pub operation_marks-overflow_add-p-2 : goal.operation_marks-overflow_add-p-2
operation_marks-overflow_add-p-2 t c = omega (arith, c.requires.place)

pub operation_marks-end_of-requires : goal.operation_marks-end_of-requires
operation_marks-end_of-requires t c = omega (arith, c.requires.place)

pub operation_marks-marks_read-right-requires : goal.operation_marks-marks_read-right-requires
operation_marks-marks_read-right-requires t c = (omega arith, resized c.requires c.place-q.ensures.0)

pub operation_marks-returns : goal.operation_marks-returns
operation_marks-returns t c = λ d o. right_read _ _ _ _ _ o c.requires.manifest c.place.ensures c.marks_read-left.ensures c.skips_right.ensures c.if-skips_right.false c.end_of.ensures c.place-q.ensures c.marks_read-right.ensures c.union.ensures

pub selector_marks-returns-then-below-eq0 : goal.selector_marks-returns-then-below-eq0
selector_marks-returns-then-below-eq0 t c = λ d o. absurd (selector_deep o c.if-below-eq0.true)

pub selector_marks-overflow_add-p : goal.selector_marks-overflow_add-p
selector_marks-overflow_add-p t c = omega (arith, c.requires.place)

pub selector_marks-marks_read-marks-requires : goal.selector_marks-marks_read-marks-requires
selector_marks-marks_read-marks-requires t c = (omega arith, resized c.requires c.place-scrutinee.ensures.0)

pub selector_marks-evaluate-a-requires : goal.selector_marks-evaluate-a-requires
selector_marks-evaluate-a-requires t c = resized c.requires c.place-scrutinee.ensures.0

pub selector_marks-overflow_add-p-2 : goal.selector_marks-overflow_add-p-2
selector_marks-overflow_add-p-2 t c = omega (arith, c.requires.place)

pub selector_marks-end_of-first-requires : goal.selector_marks-end_of-first-requires
selector_marks-end_of-first-requires t c = omega (arith, c.requires.place)

pub selector_marks-end_of-requires : goal.selector_marks-end_of-requires
selector_marks-end_of-requires t c = omega (arith, c.requires.place)

pub selector_marks-overflow_sub-below : goal.selector_marks-overflow_sub-below
selector_marks-overflow_sub-below t c = omega (arith, c.if-below-eq0.false)

pub selector_marks-chosen_marks-chosen-requires : goal.selector_marks-chosen_marks-chosen-requires
selector_marks-chosen_marks-chosen-requires t c = (omega (arith, c.if-below-eq0.false), resized c.requires c.place-end.ensures.0)

pub selector_marks-returns-in_default : goal.selector_marks-returns-in_default
unfolding no_labels
selector_marks-returns-in_default t c = λ d o. scrutinee_refused _ _ _ _ _ o c.requires.manifest c.place-scrutinee.ensures c.marks_read-marks.ensures (λ s. fresh_refusal refl (c.evaluate-a.ensures.1 s) (is_refused_lem _ c.in_default.not-Ok)) refl

pub selector_marks-returns : goal.selector_marks-returns
unfolding no_labels
selector_marks-returns t c = λ d o. arm_read _ _ _ _ _ o c.requires.manifest c.place-scrutinee.ensures c.marks_read-marks.ensures (λ s. fresh_value refl (c.evaluate-a.ensures.1 s) c.in-Ok.is refl) _ c.if-below-eq0.false refl c.end_of-first.ensures c.end_of.ensures c.place-end.ensures c.chosen_marks-chosen.ensures c.union.ensures
