-- `has_fields`: the digit of what follows.
use Rattle.format.proofs.Line.{has_fields}
use Rattle.format.proofs.lines.has_fields.Goals as goal

pub returns : goal.returns
returns c t e = has_fields t e
