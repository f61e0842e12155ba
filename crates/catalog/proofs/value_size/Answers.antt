-- `value_size`: the header and the body of each kind of value.
use Rattle.catalog.proofs.Making.{integer_size, string_size, boolean_size}
use Rattle.catalog.proofs.value_size.Goals as goal

pub returns-in-Integer : goal.returns-in-Integer
returns-in-Integer c = integer_size _ c.in-Integer.is

pub returns-in-String : goal.returns-in-String
returns-in-String c = string_size _ c.in-String.is

pub returns-in-Boolean : goal.returns-in-Boolean
returns-in-Boolean c = boolean_size _ c.in-Boolean.is
