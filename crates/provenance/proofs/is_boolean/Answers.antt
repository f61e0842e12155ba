-- `is_boolean`: a refusal is not, and a value is compared.
use Rattle.provenance.proofs.Operands.{boolean_refused, boolean_compared}
use Rattle.provenance.proofs.is_boolean.Goals as goal

pub returns-in-Err : goal.returns-in-Err
returns-in-Err c = boolean_refused _ c.in-Err.is

pub returns-in-Ok : goal.returns-in-Ok
returns-in-Ok c = boolean_compared _ c.in-Ok.is c.same_value.ensures
