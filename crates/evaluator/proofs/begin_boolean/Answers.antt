-- `begin_boolean`: by the kind of the value, and whether it decides.
use Rattle.evaluator.proofs.Operators.{boolean_not_integer, boolean_not_string, boolean_decides, boolean_open}
use Rattle.evaluator.proofs.begin_boolean.Goals as goal

pub returns-then-b-decides : goal.returns-then-b-decides
returns-then-b-decides c = boolean_decides _ _ c.in-Boolean.is c.if-b-decides.true

pub returns-in-Integer : goal.returns-in-Integer
returns-in-Integer c = boolean_not_integer _ _ c.in-Integer.is

pub returns-in-String : goal.returns-in-String
returns-in-String c = boolean_not_string _ _ c.in-String.is

pub returns-else-b-decides : goal.returns-else-b-decides
returns-else-b-decides c = boolean_open _ _ c.in-Boolean.is c.if-b-decides.false
