-- `command_in`: behind a list of types, or all of the line.
use mathlib.Core.Path.{sym, ◌∙◌}
use Rattle.manifest_text.proofs.FirstLine.{command_is}
use Rattle.manifest_text.proofs.command_in.Goals as goal

pub returns-then-names_types : goal.returns-then-names_types
returns-then-names_types c = c.command_behind.ensures ∙ command_is _ (sym c.names_types.ensures ∙ c.if-names_types.true)

pub returns : goal.returns
returns c = c.command_of.ensures ∙ command_is _ (sym c.names_types.ensures ∙ c.if-names_types.false)
