-- The cycle of `evaluate` and what it calls for expressions with parts: the measures and the answers of each member stand in the files below.
use native.Mathlib.Omega.{arith}
use Rattle.labels.proofs.Words.{grows_on, grows_none, grows_joined}
use Rattle.evaluator.proofs.Expressions.{resized, title_stops, title_goes_on, negation_stops, negation_goes_on, left_stops, left_unlike, left_decides, right_stops, right_goes_on}
use Rattle.patterns.proofs.Struck.{near_at}
use Rattle.evaluator.proofs.Selectors.{chosen_here_lem, choosing_struck, choosing_fails, choosing_ends, selector_deep, selector_stops, selector_goes_on}
use Rattle.evaluator.proofs.Leaves.{no_level, says_operation, says_negation, says_attribute, says_selector, told_joined, says_constant}
use Rattle.evaluator.proofs.+attribute_read_choose_composed_evaluate_negation_operation_selector.Goals as goal

pub attribute_read-overflow_add-p : goal.attribute_read-overflow_add-p
attribute_read-overflow_add-p t c = omega (arith, c.requires.place)

pub attribute_read-evaluate-requires : goal.attribute_read-evaluate-requires
attribute_read-evaluate-requires t c = (omega arith, resized c.requires c.place-title.ensures.0)

pub attribute_read-returns-in_err-x : goal.attribute_read-returns-in_err-x
attribute_read-returns-in_err-x t c = (c.evaluate.ensures.0, λ d o. title_stops _ _ _ _ _ o c.requires.manifest c.place-title.ensures c.evaluate.ensures.1 c.in_err-x.was (grind arith))

pub attribute_read-attribute_of-requires : goal.attribute_read-attribute_of-requires
attribute_read-attribute_of-requires t c = (c.requires, c.place-title.ensures.0)

pub attribute_read-returns : goal.attribute_read-returns
attribute_read-returns t c = (grows_on c.evaluate.ensures.0 c.attribute_of.ensures.0, λ d o. title_goes_on _ _ _ _ _ o c.requires.manifest c.place-title.ensures c.evaluate.ensures.1 _ _ c.in_ok-x.was c.attribute_of.ensures.1)

pub choose-overflow_add-p : goal.choose-overflow_add-p
choose-overflow_add-p t c = omega (arith, c.requires.place)

pub choose-end_of-first-requires : goal.choose-end_of-first-requires
choose-end_of-first-requires t c = omega (arith, c.requires.place)

pub choose-end_of-requires : goal.choose-end_of-requires
choose-end_of-requires t c = omega (arith, c.requires.place)

pub choose-struck_pattern-requires : goal.choose-struck_pattern-requires
choose-struck_pattern-requires t c = (c.place-end.ensures.0, c.requires.memory)

pub choose-at-requires : goal.choose-at-requires
choose-at-requires t c = near_at c.in-Some.is c.struck_pattern.ensures.1

pub choose-returns-in-Some : goal.choose-returns-in-Some
choose-returns-in-Some t c = (grows_none (omega arith), λ d e arms short. chosen_here_lem _ _ _ _ _ d _ _ c.end_of-first.ensures c.end_of.ensures c.place-end.ensures (λ s. choosing_struck _ _ _ _ _ d _ _ _ _ c.struck_pattern.ensures.0 _ c.in-Some.is c.at.ensures) arms short)

pub choose-try_patterns-requires : goal.choose-try_patterns-requires
choose-try_patterns-requires t c = (c.place-end.ensures.0, omega arith)

pub choose-at-requires-in_default-try_patterns : goal.choose-at-requires-in_default-try_patterns
choose-at-requires-in_default-try_patterns t c = c.requires.place

pub choose-evaluate-requires : goal.choose-evaluate-requires
choose-evaluate-requires t c = (omega arith, resized c.requires c.place.ensures.0)

pub choose-returns-in_default-try_patterns : goal.choose-returns-in_default-try_patterns
choose-returns-in_default-try_patterns t c = (grows_joined c.try_patterns.ensures.labels, λ d e arms short. chosen_here_lem _ _ _ _ _ d _ _ c.end_of-first.ensures c.end_of.ensures c.place-end.ensures (λ s. choosing_fails _ _ _ _ _ d _ _ _ _ c.struck_pattern.ensures.0 c.in_default.is c.try_patterns.ensures c.in_default-try_patterns.is c.at-in_default-try_patterns.ensures) arms short)

pub choose-returns : goal.choose-returns
choose-returns t c = (grows_on (grows_joined c.try_patterns.ensures.labels) c.evaluate.ensures.0, λ d e arms short. chosen_here_lem _ _ _ _ _ d _ _ c.end_of-first.ensures c.end_of.ensures c.place-end.ensures (λ s. choosing_ends _ _ _ _ _ d _ _ _ _ c.struck_pattern.ensures.0 c.in_default.is c.try_patterns.ensures e c.requires.manifest s c.in-Some-try_patterns.is c.place.ensures c.evaluate.ensures.1) arms short)

pub composed-at-requires : goal.composed-at-requires
composed-at-requires t c = c.requires.place

pub composed-returns-then-depth-eq0 : goal.composed-returns-then-depth-eq0
composed-returns-then-depth-eq0 t c = (grows_none (omega arith), λ s l. no_level _ _ _ _ _ _ _ c.if-depth-eq0.true s)

pub composed-overflow_sub-below : goal.composed-overflow_sub-below
composed-overflow_sub-below t c = omega (arith, c.if-depth-eq0.false)

pub composed-operation-requires : goal.composed-operation-requires
composed-operation-requires t c = (omega (arith, c.if-depth-eq0.false), c.requires)

pub composed-negation-requires : goal.composed-negation-requires
composed-negation-requires t c = (omega (arith, c.if-depth-eq0.false), c.requires)

pub composed-attribute_read-requires : goal.composed-attribute_read-requires
composed-attribute_read-requires t c = (omega (arith, c.if-depth-eq0.false), c.requires)

pub composed-selector-requires : goal.composed-selector-requires
composed-selector-requires t c = (omega (arith, c.if-depth-eq0.false), c.requires)

pub composed-returns-in-22 : goal.composed-returns-in-22
composed-returns-in-22 t c = (c.operation.ensures.0, λ s l. says_operation _ _ _ _ _ _ _ c.byte_at.ensures c.if-depth-eq0.false c.in-22.is c.operation.ensures.1 s)

pub composed-returns-in-23 : goal.composed-returns-in-23
composed-returns-in-23 t c = (c.negation.ensures.0, λ s l. says_negation _ _ _ _ _ _ _ c.byte_at.ensures c.if-depth-eq0.false c.in-23.is c.negation.ensures.1 s)

pub composed-returns-in-24 : goal.composed-returns-in-24
composed-returns-in-24 t c = (c.attribute_read.ensures.0, λ s l. says_attribute _ _ _ _ _ _ _ c.byte_at.ensures c.if-depth-eq0.false c.in-24.is c.attribute_read.ensures.1 s)

pub composed-returns-in_default : goal.composed-returns-in_default
composed-returns-in_default t c = (c.selector.ensures.0, λ s l. says_selector _ _ _ _ _ _ _ c.byte_at.ensures c.if-depth-eq0.false (omega (arith, l, c.byte_at.ensures)) (omega arith) (omega arith) (omega arith) c.selector.ensures.1 s)

pub evaluate-constant-requires : goal.evaluate-constant-requires
evaluate-constant-requires t c = (c.requires.memory, c.requires.place)

pub evaluate-returns-then-tag-lt19 : goal.evaluate-returns-then-tag-lt19
evaluate-returns-then-tag-lt19 t c = (c.constant.ensures.grows, λ s. told_joined _ _ _ _ _ _ _ _ c.constant.ensures.says (says_constant _ _ _ _ _ _ _ c.byte_at-tag.ensures c.if-tag-lt19.true s))

pub evaluate-variable_read-requires : goal.evaluate-variable_read-requires
evaluate-variable_read-requires t c = (c.requires.memory, c.requires.place)

pub evaluate-returns-then-tag-lt22 : goal.evaluate-returns-then-tag-lt22
evaluate-returns-then-tag-lt22 t c = (c.variable_read.ensures.0, λ s. c.variable_read.ensures.1 _ _ _ s (omega (arith, c.byte_at-tag.ensures, c.if-tag-lt19.false)) (omega (arith, c.byte_at-tag.ensures, c.if-tag-lt22.true)))

pub evaluate-composed-requires : goal.evaluate-composed-requires
evaluate-composed-requires t c = (omega arith, c.requires)

pub evaluate-returns : goal.evaluate-returns
evaluate-returns t c = (c.composed.ensures.0, λ s. c.composed.ensures.1 s (omega (arith, c.byte_at-tag.ensures, c.if-tag-lt22.false)))

pub negation-overflow_add-p : goal.negation-overflow_add-p
negation-overflow_add-p t c = omega (arith, c.requires.place)

pub negation-evaluate-requires : goal.negation-evaluate-requires
negation-evaluate-requires t c = (omega arith, resized c.requires c.place-operand.ensures.0)

pub negation-returns-in_err-x : goal.negation-returns-in_err-x
negation-returns-in_err-x t c = (c.evaluate.ensures.0, λ d o. negation_stops _ _ _ _ _ o c.requires.manifest c.place-operand.ensures c.evaluate.ensures.1 c.in_err-x.was (grind arith))

pub negation-negated-requires : goal.negation-negated-requires
negation-negated-requires t c = c.place-operand.ensures.0

pub negation-returns : goal.negation-returns
negation-returns t c = (c.evaluate.ensures.0, λ d o. negation_goes_on _ _ _ _ _ o c.requires.manifest c.place-operand.ensures c.evaluate.ensures.1 c.in_ok-x.was c.negated.ensures)

pub operation-overflow_add-p : goal.operation-overflow_add-p
operation-overflow_add-p t c = omega (arith, c.requires.place)

pub operation-evaluate-requires : goal.operation-evaluate-requires
operation-evaluate-requires t c = (omega arith, resized c.requires c.place-left.ensures.0)

pub operation-returns-in_err-x : goal.operation-returns-in_err-x
operation-returns-in_err-x t c = (c.evaluate.ensures.0, λ d o. left_stops _ _ _ _ _ o c.requires.manifest c.place-left.ensures c.evaluate.ensures.1 c.in_err-x.was (grind arith))

pub operation-overflow_add-p-2 : goal.operation-overflow_add-p-2
operation-overflow_add-p-2 t c = omega (arith, c.requires.place)

pub operation-at-requires : goal.operation-at-requires
operation-at-requires t c = c.place-left.ensures.0

pub operation-overflow_add-p-in-Open : goal.operation-overflow_add-p-in-Open
operation-overflow_add-p-in-Open t c = omega (arith, c.requires.place)

pub operation-end_of-requires : goal.operation-end_of-requires
operation-end_of-requires t c = omega (arith, c.requires.place)

pub operation-evaluate-requires-in-Open : goal.operation-evaluate-requires-in-Open
operation-evaluate-requires-in-Open t c = (omega arith, resized c.requires c.place-right.ensures.0)

pub operation-returns-in_err-y-in-Open : goal.operation-returns-in_err-y-in-Open
operation-returns-in_err-y-in-Open t c = (grows_on c.evaluate.ensures.0 c.evaluate-in-Open.ensures.0, λ d o. right_stops _ _ _ _ _ o c.requires.manifest c.place-left.ensures c.evaluate.ensures.1 c.in_ok-x.was c.byte_at-op.ensures c.begin.ensures c.in-Open.is c.end_of.ensures c.place-right.ensures c.evaluate-in-Open.ensures.1 c.in_err-y-in-Open.was (grind arith))

pub operation-combine-requires : goal.operation-combine-requires
operation-combine-requires t c = (c.requires.place, c.place-right.ensures.0)

pub operation-returns-in-WrongKind : goal.operation-returns-in-WrongKind
operation-returns-in-WrongKind t c = (c.evaluate.ensures.0, λ d o. left_unlike _ _ _ _ _ o c.requires.manifest c.place-left.ensures c.evaluate.ensures.1 c.in_ok-x.was c.byte_at-op.ensures c.begin.ensures c.in-WrongKind.is c.at.ensures)

pub operation-returns-in-Decided : goal.operation-returns-in-Decided
operation-returns-in-Decided t c = (c.evaluate.ensures.0, λ d o. left_decides _ _ _ _ _ o c.requires.manifest c.place-left.ensures c.evaluate.ensures.1 c.in_ok-x.was c.byte_at-op.ensures c.begin.ensures c.in-Decided.is)

pub operation-returns-in_ok-y-in-Open : goal.operation-returns-in_ok-y-in-Open
operation-returns-in_ok-y-in-Open t c = (grows_on c.evaluate.ensures.0 c.evaluate-in-Open.ensures.0, λ d o. right_goes_on _ _ _ _ _ o c.requires.manifest c.place-left.ensures c.evaluate.ensures.1 c.in_ok-x.was c.byte_at-op.ensures c.begin.ensures c.in-Open.is c.end_of.ensures c.place-right.ensures c.evaluate-in-Open.ensures.1 c.in_ok-y-in-Open.was c.combine.ensures)

pub selector-at-requires : goal.selector-at-requires
selector-at-requires t c = c.requires.place

pub selector-returns-then-below-eq0 : goal.selector-returns-then-below-eq0
selector-returns-then-below-eq0 t c = (grows_none (omega arith), λ d o. absurd (selector_deep o c.if-below-eq0.true))

pub selector-overflow_add-p : goal.selector-overflow_add-p
selector-overflow_add-p t c = omega (arith, c.requires.place)

pub selector-evaluate-requires : goal.selector-evaluate-requires
selector-evaluate-requires t c = (omega arith, resized c.requires c.place.ensures.0)

pub selector-returns-in_err-x : goal.selector-returns-in_err-x
selector-returns-in_err-x t c = (c.evaluate.ensures.0, λ d o. selector_stops _ _ _ _ _ o c.requires.manifest c.place.ensures c.evaluate.ensures.1 c.in_err-x.was (grind arith))

pub selector-overflow_sub-below : goal.selector-overflow_sub-below
selector-overflow_sub-below t c = omega (arith, c.if-below-eq0.false)

pub selector-choose-requires : goal.selector-choose-requires
selector-choose-requires t c = (omega (arith, c.if-below-eq0.false), c.requires)

pub selector-returns : goal.selector-returns
selector-returns t c = (grows_on c.evaluate.ensures.0 c.choose.ensures.0, λ d o. selector_goes_on _ _ _ _ _ o c.requires.manifest c.place.ensures c.evaluate.ensures.1 c.if-below-eq0.false c.in_ok-x.was c.choose.ensures.1)
