-- `value_of`: the table's value, no value, the default.
use Rattle.parameters.proofs.Searches.{value_from_table, value_nowhere, value_by_default}
use Rattle.parameters.proofs.value_of.Goals as goal

pub returns-in-Some : goal.returns-in-Some
returns-in-Some c = value_from_table _ _ _ c.two_at.ensures c.given.ensures c.in-Some.is

pub returns-then-end_of-q : goal.returns-then-end_of-q
returns-then-end_of-q c = value_nowhere _ _ _ c.two_at.ensures c.given.ensures c.in_default.is c.end_of.ensures c.if-end_of-q.true

pub returns : goal.returns
returns c = value_by_default _ _ _ c.two_at.ensures c.given.ensures c.in_default.is c.end_of.ensures c.if-end_of-q.false c.constant_at.ensures
