-- `include`: a keyword and a name.
use Rattle.statement_printer.proofs.PlainStatements.{include_passes}
use Rattle.statement_printer.proofs.plain.include.Goals as goal

pub returns : goal.returns
returns c = include_passes _ _ _ c.requires c.two_at.ensures c.write_mark-word.ensures c.write_word.ensures
