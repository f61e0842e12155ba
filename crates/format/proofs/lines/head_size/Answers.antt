-- `head_size`: the lowest digit.
use Rattle.format.proofs.Line.{digits_in}
use Rattle.format.proofs.lines.head_size.Goals as goal

pub returns : goal.returns
returns c t e = (digits_in t e).size
