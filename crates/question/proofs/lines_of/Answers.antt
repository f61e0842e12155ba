-- `lines_of`: one line after the other.
use Rattle.question.proofs.Reading.{lines_are}
use Rattle.question.proofs.lines_of.Goals as goal

pub returns : goal.returns
returns c =
    lines_are _ c.feed_place-device.ensures c.line_after-kind.ensures c.line_after-title.ensures c.line_after-attribute.ensures c.line_after-label.ensures
