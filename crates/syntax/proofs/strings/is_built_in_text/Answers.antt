-- `is_built_in_text`: the names are those of the definition, in its order.
use mathlib.Core.Path.{refl, ◌∙◌}
use Rattle.rules.specs.Evaluate.{any}
use Rattle.rules.specs.Types.{built_in_types, eight_types}
use Rattle.syntax.specs.Strings.{is_built_in_text}
use Rattle.syntax.proofs.Texts.{one_of_eight}
use Rattle.syntax.proofs.strings.is_built_in_text.Goals as goal

pub returns : goal.returns
unfolding is_built_in_text built_in_types eight_types any
returns c =
    one_of_eight c.same_bytes.result c.same_bytes-2.result c.same_bytes-3.result c.same_bytes-4.result c.same_bytes-5.result c.same_bytes-6.result c.same_bytes-7.result c.same_bytes-8.result
    ∙ rw (c.same_bytes.ensures, c.same_bytes-2.ensures, c.same_bytes-3.ensures, c.same_bytes-4.ensures, c.same_bytes-5.ensures, c.same_bytes-6.ensures, c.same_bytes-7.ensures, c.same_bytes-8.ensures) refl
