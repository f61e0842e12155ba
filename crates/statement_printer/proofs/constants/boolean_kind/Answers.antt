-- `boolean_kind`: by the byte.
use Rattle.statement_printer.proofs.ConstantTokens.{true_kind, false_kind}
use Rattle.statement_printer.proofs.constants.boolean_kind.Goals as goal

pub returns-then-b-eq1 : goal.returns-then-b-eq1
returns-then-b-eq1 c = true_kind _ c.if-b-eq1.true

pub returns-else-b-eq1 : goal.returns-else-b-eq1
returns-else-b-eq1 c = false_kind _ c.if-b-eq1.false
