-- `is_full`: by the fill, then by the brackets.
use Rattle.statement_printer.proofs.OneToken.{long_full, brackets_full}
use Rattle.statement_printer.proofs.tokens.is_full.Goals as goal

pub returns-then-pen-gt65535 : goal.returns-then-pen-gt65535
returns-then-pen-gt65535 c = long_full _ c.if-pen-gt65535.true

pub returns : goal.returns
returns c = brackets_full _ c.if-pen-gt65535.false
