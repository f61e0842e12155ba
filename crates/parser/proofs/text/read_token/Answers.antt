-- `read_token`: the token is malformed, brings one string too many, may not stand there, or is taken.
use native.Mathlib.Omega.{arith}
use Rattle.parser.specs.Reading.{ReadSo}
use Rattle.parser.proofs.TokenRead.{malformed_refused, crowded_refused, steppable, stuck_refused, taken_last, taken_on}
use Rattle.parser.proofs.text.read_token.Goals as goal

pub returns-then-token-eq-MALFORMED : goal.returns-then-token-eq-MALFORMED
unfolding ReadSo
returns-then-token-eq-MALFORMED c = λ f g. malformed_refused _ _ _ _ _ _ _ c.requires.1 _ c.next_token-token.ensures c.if-token-eq-MALFORMED.true f

pub returns-then-numbers-gt1024 : goal.returns-then-numbers-gt1024
unfolding ReadSo
returns-then-numbers-gt1024 c = λ f g. crowded_refused _ _ _ _ _ _ _ c.requires.1 _ c.next_token-token.ensures c.if-token-eq-MALFORMED.false _ _ c.enter_strings-numbers.ensures c.if-numbers-gt1024.true f

pub take-requires : goal.take-requires
take-requires c = record { types = _; steppable = steppable _ _ _ _ _ _ _ c.requires.1 _ c.next_token-token.ensures c.if-token-eq-MALFORMED.false _ _ c.enter_strings-numbers.ensures (omega (arith, c.if-numbers-gt1024.false)) _ c.resource_tag.ensures _ c.word_for-building.ensures }

pub shape_of-table-then-token-eq-END_OF_TEXT : goal.shape_of-table-then-token-eq-END_OF_TEXT
shape_of-table-then-token-eq-END_OF_TEXT c = c.enter_strings-numbers.ensures.size

pub returns-then-token-eq-END_OF_TEXT : goal.returns-then-token-eq-END_OF_TEXT
unfolding ReadSo
returns-then-token-eq-END_OF_TEXT c = λ f g. taken_last _ _ _ _ _ _ _ c.requires.1 _ c.next_token-token.ensures c.if-token-eq-MALFORMED.false _ _ c.enter_strings-numbers.ensures (omega (arith, c.if-numbers-gt1024.false)) _ c.resource_tag.ensures _ c.word_for-building.ensures _ _ _ _ (c.take.ensures _) _ c.in-Some.is _ c.pass_behind-next.ensures f g c.if-token-eq-END_OF_TEXT.true

pub returns-in_default : goal.returns-in_default
unfolding ReadSo
returns-in_default c = λ f g. stuck_refused _ _ _ _ _ _ _ c.requires.1 _ c.next_token-token.ensures c.if-token-eq-MALFORMED.false _ _ c.enter_strings-numbers.ensures (omega (arith, c.if-numbers-gt1024.false)) _ c.resource_tag.ensures _ c.word_for-building.ensures _ _ _ _ (c.take.ensures _) c.in_default.is f g

pub shape_of-table : goal.shape_of-table
shape_of-table c = c.enter_strings-numbers.ensures.size

pub returns : goal.returns
unfolding ReadSo
returns c = λ f g. taken_on _ _ _ _ _ _ _ c.requires.1 _ c.next_token-token.ensures c.if-token-eq-MALFORMED.false _ _ c.enter_strings-numbers.ensures (omega (arith, c.if-numbers-gt1024.false)) _ c.resource_tag.ensures _ c.word_for-building.ensures _ _ _ _ (c.take.ensures _) _ c.in-Some.is _ c.pass_behind-next.ensures f g c.if-token-eq-END_OF_TEXT.false
