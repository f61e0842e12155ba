-- `write_whole`: the items, and the end unless the text is too long.
use mathlib.Core.Path.{refl}
use Rattle.places.proofs.Items.{manifest_opens}
use Rattle.statement_printer.proofs.OneToken.{ready}
use Rattle.statement_printer.proofs.PrintedExpressions.{siblings_at}
use Rattle.printer.proofs.WholeText.{items_end, counts_too_many, counts_over, counts_all}
use Rattle.printer.proofs.write_whole.Goals as goal

pub items-last-requires : goal.items-last-requires
items-last-requires c = (c.requires.0, siblings_at refl c.end_of.ensures refl (manifest_opens _ c.requires.1).each)

pub returns-then-is_full : goal.returns-then-is_full
returns-then-is_full c = counts_too_many (items_end _ c.requires.1 c.end_of.ensures c.items-last.ensures) c.is_full.ensures c.if-is_full.true

pub put_end-size-requires : goal.put_end-size-requires
put_end-size-requires c = ready c.is_full.ensures c.if-is_full.false

pub returns-then-size-gt65535 : goal.returns-then-size-gt65535
returns-then-size-gt65535 c = counts_over (items_end _ c.requires.1 c.end_of.ensures c.items-last.ensures) c.is_full.ensures c.if-is_full.false c.put_end-size.ensures c.if-size-gt65535.true

pub returns : goal.returns
returns c = counts_all (items_end _ c.requires.1 c.end_of.ensures c.items-last.ensures) c.is_full.ensures c.if-is_full.false c.put_end-size.ensures c.if-size-gt65535.false
