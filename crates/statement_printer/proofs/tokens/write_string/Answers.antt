-- `write_string`: a token that holds a string, unless the text is too long already.
use Rattle.statement_printer.proofs.OneToken.{stays, ready, string_short, writes_holding}
use Rattle.statement_printer.proofs.tokens.write_string.Goals as goal

pub returns-then-is_full : goal.returns-then-is_full
returns-then-is_full c = stays c.is_full.ensures c.if-is_full.true

pub put_string-requires : goal.put_string-requires
put_string-requires c = (ready c.is_full.ensures c.if-is_full.false, string_short _ _ c.string_at.ensures c.requires.short)

pub returns : goal.returns
returns c = writes_holding c.args.kind c.string_at.ensures c.is_full.ensures c.if-is_full.false c.put_string.ensures
