-- `is_right`: each rule in turn.
use native.Mathlib.Omega.{arith}
use Rattle.type_list.proofs.Checking.{no_header, other_tag, past_end, no_letters, too_long, other_byte, by_order}
use Rattle.type_list.proofs.is_right.Goals as goal

pub overflow_sub-left : goal.overflow_sub-left
overflow_sub-left c = omega (arith, c.requires)

pub returns-then-left-lt-HEADER : goal.returns-then-left-lt-HEADER
returns-then-left-lt-HEADER c = no_header _ _ _ (omega (arith, c.if-left-lt-HEADER.true, c.requires))

pub byte_in-requires : goal.byte_in-requires
byte_in-requires c = c.requires

pub returns-then-byte_in-ne2 : goal.returns-then-byte_in-ne2
returns-then-byte_in-ne2 c = other_tag _ _ _ (omega (arith, c.if-left-lt-HEADER.false, c.requires)) c.byte_in.ensures c.if-byte_in-ne2.true

pub returns-then-left-letters : goal.returns-then-left-letters
returns-then-left-letters c = past_end _ _ _ (omega (arith, c.if-left-lt-HEADER.false, c.requires)) c.byte_in.ensures c.if-byte_in-ne2.false c.length_at-letters.ensures (omega (arith, c.if-left-letters.true, c.requires))

pub returns-then-letters-eq0 : goal.returns-then-letters-eq0
returns-then-letters-eq0 c = no_letters _ _ _ (omega (arith, c.if-left-lt-HEADER.false, c.requires)) c.byte_in.ensures c.if-byte_in-ne2.false c.length_at-letters.ensures (omega (arith, c.if-left-letters.false, c.if-left-lt-HEADER.false, c.requires)) c.if-letters-eq0.true

pub returns-then-letters-gt-LONGEST : goal.returns-then-letters-gt-LONGEST
returns-then-letters-gt-LONGEST c = too_long _ _ _ (omega (arith, c.if-left-lt-HEADER.false, c.requires)) c.byte_in.ensures c.if-byte_in-ne2.false c.length_at-letters.ensures (omega (arith, c.if-left-letters.false, c.if-left-lt-HEADER.false, c.requires)) c.if-letters-eq0.false c.if-letters-gt-LONGEST.true

pub returns-then-not-is_lower_case : goal.returns-then-not-is_lower_case
returns-then-not-is_lower_case c = other_byte _ _ _ (omega (arith, c.if-left-lt-HEADER.false, c.requires)) c.byte_in.ensures c.if-byte_in-ne2.false c.length_at-letters.ensures (omega (arith, c.if-left-letters.false, c.if-left-lt-HEADER.false, c.requires)) c.if-letters-eq0.false c.if-letters-gt-LONGEST.false c.text_of-name.ensures c.is_lower_case.ensures c.if-not-is_lower_case.true

pub returns : goal.returns
returns c = by_order _ _ _ (omega (arith, c.if-left-lt-HEADER.false, c.requires)) c.byte_in.ensures c.if-byte_in-ne2.false c.length_at-letters.ensures (omega (arith, c.if-left-letters.false, c.if-left-lt-HEADER.false, c.requires)) c.if-letters-eq0.false c.if-letters-gt-LONGEST.false c.text_of-name.ensures c.is_lower_case.ensures c.if-not-is_lower_case.false c.comes_before.ensures
