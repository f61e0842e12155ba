-- `names_types`: the first word.
use mathlib.Core.Path.{ap, ◌∙◌}
use Rattle.rules.specs.Compile.{same_bytes}
use Rattle.manifest_text.specs.Commands.{names_types}
use Rattle.manifest_text.proofs.names_types.Goals as goal

pub returns : goal.returns
unfolding names_types
returns c = c.same_bytes.ensures ∙ ap (same_bytes _) c.first.ensures
