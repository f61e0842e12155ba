-- `check_shape`: the walk over the fields outside others.
use mathlib.Core.Path.{sym, ◌∙◌}
use Rattle.rules.specs.Check.{shape}
use Rattle.format.specs.Numbers.{kinds, kind_from, how_many, shaped, part_from, push, undone, lowest, parts_from}
use Rattle.syntax.proofs.Walk.{walk_undone}
use Rattle.syntax.proofs.shape.check_shape.Goals as goal

pub returns : goal.returns
unfolding shape parts_from lowest part_from how_many shaped kind_from kinds push undone
returns c = c.check_fields.ensures ∙ sym (walk_undone _ _ _ _ _ _)
