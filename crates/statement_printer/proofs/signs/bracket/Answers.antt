-- `bracket`: by the test.
use Rattle.statement_printer.proofs.OperatorSigns.{no_bracket, one_bracket}
use Rattle.statement_printer.proofs.signs.bracket.Goals as goal

pub returns-then-tight : goal.returns-then-tight
returns-then-tight c = no_bracket _ _ c.if-tight.true

pub returns : goal.returns
returns c = one_bracket _ _ c.if-tight.false c.write_mark.ensures
