-- `get`: no string past the last one, or the text at the place that the index has.
use Rattle.schedule.proofs.Strings.{no_string_lem, its_string}
use Rattle.schedule.proofs.pieces.Strings.get.Goals as goal

pub returns-then-self-n : goal.returns-then-self-n
returns-then-self-n c = no_string_lem _ _ _ _ c.if-self-n.true

pub returns : goal.returns
returns c = its_string _ _ _ _ c.if-self-n.false c.two_at.ensures c.text_of.ensures
