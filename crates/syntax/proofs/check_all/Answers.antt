-- `check_all`: one law for each way through it.
use mathlib.Core.Path.{◌∙◌}
use Rattle.syntax.proofs.Whole.{too_short, too_long, right_length}
use Rattle.syntax.proofs.check_all.Goals as goal

pub returns-then-m-eq0 : goal.returns-then-m-eq0
returns-then-m-eq0 c = c.at.ensures ∙ too_short _ c.if-m-eq0.true

pub returns-then-m-gt65535 : goal.returns-then-m-gt65535
returns-then-m-gt65535 c = c.at-then-m-gt65535.ensures ∙ too_long _ c.if-m-eq0.false c.if-m-gt65535.true

pub returns : goal.returns
returns c = right_length _ c.if-m-eq0.false c.if-m-gt65535.false c.check.ensures
