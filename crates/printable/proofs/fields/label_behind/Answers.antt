-- `label_behind`: no constant, or its label.
use Rattle.printable.proofs.OneField.{below_constants, above_constants, among_constants, label_kept, label_new}
use Rattle.printable.proofs.fields.label_behind.Goals as goal

pub returns-then-tag-lt16 : goal.returns-then-tag-lt16
returns-then-tag-lt16 c = label_kept _ _ _ _ c.byte_in-tag.ensures (below_constants _ c.if-tag-lt16.true)

pub returns-then-tag-gt18 : goal.returns-then-tag-gt18
returns-then-tag-gt18 c = label_kept _ _ _ _ c.byte_in-tag.ensures (above_constants _ c.if-tag-gt18.true)

pub returns : goal.returns
returns c = label_new _ _ _ _ c.byte_in-tag.ensures (among_constants _ c.if-tag-lt16.false c.if-tag-gt18.false) c.byte_at.ensures
