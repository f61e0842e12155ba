-- `compare`: what is left of both strings at first is the whole of them.
use mathlib.Core.Path.{◌∙◌}
use Rattle.interner.proofs.Comparing.{whole_order}
use Rattle.interner.proofs.compare.Goals as goal

pub compare_behind_letters-requires : goal.compare_behind_letters-requires
compare_behind_letters-requires c = (c.start-first.ensures.1, c.start-second.ensures.1)

pub returns : goal.returns
returns c = c.compare_behind_letters.ensures ∙ whole_order _ _ _ _ _ c.start-first.ensures.0 c.start-second.ensures.0
