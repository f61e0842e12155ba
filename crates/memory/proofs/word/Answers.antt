-- `word`: two bytes read.
use mathlib.Core.Path.{◌∙◌}
use Rattle.memory.proofs.Words.{word_at}
use Rattle.memory.proofs.word.Goals as goal

pub returns : goal.returns
returns c = c.two_in.ensures ∙ word_at _ _
