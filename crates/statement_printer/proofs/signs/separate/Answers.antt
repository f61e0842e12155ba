-- `separate`: by the test.
use Rattle.statement_printer.proofs.OperatorSigns.{no_comma, one_comma}
use Rattle.statement_printer.proofs.signs.separate.Goals as goal

pub returns-then-later : goal.returns-then-later
returns-then-later c = one_comma _ c.if-later.true c.write_mark.ensures

pub returns : goal.returns
returns c = no_comma _ c.if-later.false
