-- `find_definition`: none, one with another tag, the one that is asked.
use Rattle.declarations.proofs.Standing.{found_none, found_other, found_there}
use Rattle.declarations.proofs.find_definition.Goals as goal

pub returns-then-d-eq0 : goal.returns-then-d-eq0
returns-then-d-eq0 c = found_none _ _ _ _ c.definition_at-d.ensures c.if-d-eq0.true

pub returns-then-byte_at-tag : goal.returns-then-byte_at-tag
returns-then-byte_at-tag c = found_other _ _ _ _ c.definition_at-d.ensures c.if-d-eq0.false c.byte_at.ensures c.if-byte_at-tag.true

pub returns : goal.returns
returns c = found_there _ _ _ _ c.definition_at-d.ensures c.if-d-eq0.false c.byte_at.ensures c.if-byte_at-tag.false
