-- `resource_tag`: whether the type is built in.
use mathlib.Core.Path.{sym, ◌∙◌}
use mathlib.Core.Bool.{true, false}
use Rattle.parser.proofs.TokenStrings.{tag_of}
use Rattle.parser.proofs.text.resource_tag.Goals as goal

pub returns-then-is_type : goal.returns-then-is_type
returns-then-is_type c = λ e. let p = c.requires.1 in tag_of _ _ _ _ p.0 p.1 true (sym c.is_type.ensures ∙ c.if-is_type.true)

pub returns : goal.returns
returns c = λ e. let p = c.requires.1 in tag_of _ _ _ _ p.0 p.1 false (sym c.is_type.ensures ∙ c.if-is_type.false)
