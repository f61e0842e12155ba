-- `write_mark`: a sign or a keyword, unless the text is too long already.
use Rattle.notation.specs.Tokens.{mark}
use Rattle.statement_printer.proofs.OneToken.{stays, ready, writes}
use Rattle.statement_printer.proofs.tokens.write_mark.Goals as goal

pub returns-then-is_full : goal.returns-then-is_full
returns-then-is_full c = stays c.is_full.ensures c.if-is_full.true

pub put_mark-requires : goal.put_mark-requires
put_mark-requires c = (ready c.is_full.ensures c.if-is_full.false, c.requires.0, c.requires.1)

pub returns : goal.returns
returns c = writes (mark _) c.is_full.ensures c.if-is_full.false c.put_mark.ensures
