-- `subject_in`: past the attributes, in the header, or at an attribute.
use Rattle.schedule.proofs.Tests.{no_attributes, past_attributes, in_header, an_attribute, broken_attribute}
use Rattle.schedule.proofs.subjects.subject_in.Goals as goal

pub returns-then-q-p : goal.returns-then-q-p
returns-then-q-p c = no_attributes _ _ _ _ c.if-e-q.true c.if-q-p.true c.next_in.ensures

pub returns-then-e-q : goal.returns-then-e-q
returns-then-e-q c = past_attributes _ _ _ _ c.if-e-q.true c.if-q-p.false

pub returns-then-q-p-2 : goal.returns-then-q-p-2
returns-then-q-p-2 c = in_header _ _ _ _ c.if-e-q.false c.if-q-p-2.true

pub returns-then-attribute_stands : goal.returns-then-attribute_stands
returns-then-attribute_stands c = an_attribute _ _ _ _ c.if-e-q.false c.if-q-p-2.false c.attribute_stands.ensures c.if-attribute_stands.true c.end_of.ensures c.next_in-then-attribute_stands.ensures

pub returns : goal.returns
returns c = broken_attribute _ _ _ _ c.if-e-q.false c.if-q-p-2.false c.attribute_stands.ensures c.if-attribute_stands.false
