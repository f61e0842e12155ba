-- `write_number`: a number, unless the text is too long already.
use mathlib.Core.Path.{ap}
use mir.Syntax.{w64}
use mir.ValLaws.{to_z-of_z}
use Rattle.notation.specs.Tokens.{number}
use Rattle.statement_printer.proofs.OneToken.{stays, ready, writes_as}
use Rattle.statement_printer.proofs.tokens.write_number.Goals as goal

pub returns-then-is_full : goal.returns-then-is_full
returns-then-is_full c = stays c.is_full.ensures c.if-is_full.true

pub put_number-requires : goal.put_number-requires
put_number-requires c = ready c.is_full.ensures c.if-is_full.false

pub returns : goal.returns
returns c =
    writes_as (number _) (ap number (to_z-of_z w64 c.args.value c.ranges.value)) c.is_full.ensures c.if-is_full.false c.put_number.ensures
