-- `allows`: the bit of the kind.
use Rattle.format.proofs.Line.{kind_told}
use Rattle.format.proofs.lines.allows.Goals as goal

pub returns : goal.returns
returns c t e = kind_told t _ e c.requires
