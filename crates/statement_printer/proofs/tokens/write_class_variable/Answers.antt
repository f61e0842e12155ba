-- `write_class_variable`: a class variable, unless the text is too long already.
use mathlib.Core.Path.{ap₂}
use Rattle.notation.specs.Tokens.{class_variable}
use Rattle.statement_printer.proofs.OneToken.{stays, ready, writes_as, string_short}
use Rattle.statement_printer.proofs.tokens.write_class_variable.Goals as goal

pub returns-then-is_full : goal.returns-then-is_full
returns-then-is_full c = stays c.is_full.ensures c.if-is_full.true

pub put_class_variable-requires : goal.put_class_variable-requires
put_class_variable-requires c = (ready c.is_full.ensures c.if-is_full.false, string_short _ _ c.string_at-whose.ensures c.requires.short, string_short _ _ c.string_at.ensures c.requires.short)

pub returns : goal.returns
returns c = writes_as (class_variable _ _) (ap₂ class_variable c.string_at-whose.ensures c.string_at.ensures) c.is_full.ensures c.if-is_full.false c.put_class_variable.ensures
