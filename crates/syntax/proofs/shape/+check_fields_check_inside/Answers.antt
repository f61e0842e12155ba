-- The walk over the fields: `check_fields` at a level goes into each field by `check_inside`, and this into its fields one level further down.
use mathlib.Core.Path.{◌≡◌, ap, ◌∙◌}
use native.Mathlib.Omega.{arith}
use Rattle.format.specs.Numbers.{line_number}
use Rattle.syntax.proofs.Walk.{within, too_deep, no_head, wrong_bytes, no_more, its_fields, all_there, lacking, wrong_header, fault_inside, next_field}
use Rattle.syntax.proofs.shape.+check_fields_check_inside.Goals as goal

pub check_fields-returns-in_default : goal.check_fields-returns-in_default
check_fields-returns-in_default t c = c.at.ensures ∙ (wrong_header _ _ _ _ _ _ c.loop-q-test.true c.header_at.ensures c.in_default.is ∙ c.loop-q.invariant)

pub check_fields-two_in-len-requires : goal.check_fields-two_in-len-requires
check_fields-two_in-len-requires t c = let w = within _ _ _ _ c.header_at.ensures c.in-Some.is in omega (arith, c.requires)

pub check_fields-check_inside-requires : goal.check_fields-check_inside-requires
check_fields-check_inside-requires t c = let w = within _ _ _ _ c.header_at.ensures c.in-Some.is in (omega (arith, c.decreases), (omega (arith, c.requires), (c.line_of-line.ensures ∙ ap line_number c.byte_in.ensures, c.two_in-len.ensures)))

pub check_fields-returns-in_err-check_inside : goal.check_fields-returns-in_err-check_inside
check_fields-returns-in_err-check_inside t c = let handed_on : c.from_residual.result ≡ c.check_inside.result = grind arith in handed_on ∙ (fault_inside _ _ _ _ _ _ c.loop-q-test.true c.header_at.ensures c.in-Some.is c.check_inside.ensures c.in_err-check_inside.was ∙ c.loop-q.invariant)

pub check_fields-loop-q-smaller : goal.check_fields-loop-q-smaller
check_fields-loop-q-smaller t c = omega (arith, c.loop-q-test.true)

pub check_fields-loop-q-preserved : goal.check_fields-loop-q-preserved
check_fields-loop-q-preserved t c = next_field _ _ _ _ _ _ c.loop-q-test.true c.header_at.ensures c.in-Some.is c.check_inside.ensures c.two_in-len.ensures c.in_ok-check_inside.was c.loop-q.invariant

pub check_fields-returns-then-may_end : goal.check_fields-returns-then-may_end
check_fields-returns-then-may_end t c = all_there _ _ _ _ _ _ c.loop-q-test.false c.may_end.ensures c.if-may_end.true ∙ c.loop-q.invariant

pub check_fields-returns-else-may_end : goal.check_fields-returns-else-may_end
check_fields-returns-else-may_end t c = c.at-else-may_end.ensures ∙ (lacking _ _ _ _ _ _ c.loop-q-test.false c.may_end.ensures c.if-may_end.false ∙ c.loop-q.invariant)

pub check_inside-returns-then-levels-eq0 : goal.check_inside-returns-then-levels-eq0
check_inside-returns-then-levels-eq0 t c = c.at.ensures ∙ too_deep _ _ _ c.if-levels-eq0.true

pub check_inside-returns-then-len-size : goal.check_inside-returns-then-len-size
check_inside-returns-then-len-size t c = c.at-then-len-size.ensures ∙ no_head _ _ _ c.if-levels-eq0.false c.requires.1.1 (c.head_size-size.ensures _ c.requires.1.0) c.if-len-size.true

pub check_inside-bytes_right-requires : goal.check_inside-bytes_right-requires
check_inside-bytes_right-requires t c = omega (arith, c.requires.0)

pub check_inside-returns-then-not-bytes_right : goal.check_inside-returns-then-not-bytes_right
check_inside-returns-then-not-bytes_right t c = c.at-then-not-bytes_right.ensures ∙ wrong_bytes _ _ _ c.if-levels-eq0.false c.requires.1.1 (c.head_size-size.ensures _ c.requires.1.0) c.if-len-size.false (c.bytes_right.ensures _ c.requires.1.0) c.if-not-bytes_right.true

pub check_inside-returns-then-not-has_fields : goal.check_inside-returns-then-not-has_fields
check_inside-returns-then-not-has_fields t c = no_more _ _ _ c.if-levels-eq0.false c.requires.1.1 (c.head_size-size.ensures _ c.requires.1.0) c.if-len-size.false (c.bytes_right.ensures _ c.requires.1.0) c.if-not-bytes_right.false (c.has_fields.ensures _ c.requires.1.0) c.if-not-has_fields.true

pub check_inside-byte_in-requires : goal.check_inside-byte_in-requires
check_inside-byte_in-requires t c = omega (arith, c.requires.0)

pub check_inside-overflow_add-from : goal.check_inside-overflow_add-from
check_inside-overflow_add-from t c = omega (arith, c.requires.0)

pub check_inside-overflow_add-end : goal.check_inside-overflow_add-end
check_inside-overflow_add-end t c = omega (arith, c.requires.0)

pub check_inside-overflow_sub-levels : goal.check_inside-overflow_sub-levels
check_inside-overflow_sub-levels t c = omega (arith, c.if-levels-eq0.false)

pub check_inside-returns : goal.check_inside-returns
check_inside-returns t c = its_fields _ _ _ c.if-levels-eq0.false c.requires.1.1 (c.head_size-size.ensures _ c.requires.1.0) c.if-len-size.false (c.bytes_right.ensures _ c.requires.1.0) c.if-not-bytes_right.false (c.has_fields.ensures _ c.requires.1.0) _ c.if-not-has_fields.false c.byte_in.ensures c.parts_of-parts.ensures c.check_fields.ensures
