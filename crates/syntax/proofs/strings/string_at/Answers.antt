-- `string_at`: the text at the place that the table has.
use Rattle.syntax.proofs.Texts.{no_string_lem, its_string}
use Rattle.syntax.proofs.strings.string_at.Goals as goal

pub returns-then-strings-n : goal.returns-then-strings-n
returns-then-strings-n c = no_string_lem _ _ _ _ c.requires c.if-strings-n.true

pub returns : goal.returns
returns c = its_string _ _ _ _ c.requires c.if-strings-n.false c.two_at.ensures c.text_of.ensures
