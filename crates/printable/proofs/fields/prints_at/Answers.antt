-- `prints_at`: the label, then the names, then the type.
use mathlib.Core.Path.{refl}
use Rattle.printable.proofs.OneField.{label_falls, label_rises, label_wrong, names_wrong, type_decides}
use Rattle.printable.proofs.fields.prints_at.Goals as goal

pub returns-then-label_behind-last : goal.returns-then-label_behind-last
returns-then-label_behind-last c =
    let tag = c.byte_in-tag.ensures in
    label_wrong _ _ _ _ _ tag refl (label_falls _ _ _ _ tag c.label_behind.ensures c.if-label_behind-last.true)

pub returns-then-not-names_spellable : goal.returns-then-not-names_spellable
returns-then-not-names_spellable c =
    let tag = c.byte_in-tag.ensures in
    names_wrong _ _ _ _ _ tag refl (label_rises _ _ _ _ tag c.label_behind.ensures c.if-label_behind-last.false) c.names_spellable.ensures c.if-not-names_spellable.true

pub returns : goal.returns
returns c =
    let tag = c.byte_in-tag.ensures in
    type_decides _ _ _ _ _ tag refl (label_rises _ _ _ _ tag c.label_behind.ensures c.if-label_behind-last.false) c.names_spellable.ensures c.if-not-names_spellable.false c.type_right.ensures
