-- `names_spellable`: in quotes, or by its pieces.
use Rattle.printable.proofs.OneField.{text_spelled, device_spelled, pieces_decide}
use Rattle.printable.proofs.fields.names_spellable.Goals as goal

pub returns-then-tag-eq17 : goal.returns-then-tag-eq17
returns-then-tag-eq17 c = let a = c.args in text_spelled _ a.m.bytes.now a.p _ c.if-tag-eq17.true

pub returns-then-tag-eq49 : goal.returns-then-tag-eq49
returns-then-tag-eq49 c = let a = c.args in device_spelled _ a.m.bytes.now a.p _ c.if-tag-eq17.false c.if-tag-eq49.true

pub returns : goal.returns
returns c = pieces_decide _ _ _ _ c.if-tag-eq17.false c.if-tag-eq49.false (c.pieces_spellable.ensures _ c.line_of.ensures)
