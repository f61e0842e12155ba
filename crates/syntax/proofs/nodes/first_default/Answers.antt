-- `first_default`: a node met before stays; then the item at p, or none.
use mathlib.Core.Path.{ap, ◌∙◌}
use Rattle.std.specs.Option.{option_or}
use Rattle.syntax.proofs.Chosen.{default_next}
use Rattle.syntax.proofs.nodes.first_default.Goals as goal

pub returns : goal.returns
returns c = c.or.ensures ∙ ap (option_or c.args.met) c.then_some.ensures ∙ default_next _ _ _ c.is_default.ensures
