-- `defined_tag`: no definition, or the tag at its place.
use Rattle.evaluator.proofs.Names.{tag_none, tag_there}
use Rattle.evaluator.proofs.defined_tag.Goals as goal

pub returns-then-q-eq0 : goal.returns-then-q-eq0
returns-then-q-eq0 c = tag_none _ _ _ c.definition_at-q.ensures c.if-q-eq0.true

pub returns : goal.returns
returns c = tag_there _ _ _ c.definition_at-q.ensures c.if-q-eq0.false c.byte_at.ensures
