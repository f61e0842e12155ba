-- `command_of`: each word in turn.
use mathlib.Core.Path.{sym, ◌∙◌}
use borrow.Author.Rules.{rules}
use Rattle.rules.specs.Compile.{same_bytes}
use Rattle.manifest_text.specs.Commands.{command_of}
use Rattle.manifest_text.proofs.FirstLine.{third_word}
use Rattle.manifest_text.proofs.command_of.Goals as goal

pub returns-then-same_bytes : goal.returns-then-same_bytes
unfolding command_of same_bytes
returns-then-same_bytes c = search rules

pub returns-then-same_bytes-2 : goal.returns-then-same_bytes-2
unfolding command_of same_bytes
returns-then-same_bytes-2 c = search rules

pub returns-then-same_bytes-3 : goal.returns-then-same_bytes-3
returns-then-same_bytes-3 c =
    c.place_asked.ensures
    ∙ third_word _ (sym c.same_bytes.ensures ∙ c.if-same_bytes.false) (sym c.same_bytes-2.ensures ∙ c.if-same_bytes-2.false) c.first.ensures (sym c.same_bytes-3.ensures ∙ c.if-same_bytes-3.true)

pub returns : goal.returns
returns c =
    third_word _ (sym c.same_bytes.ensures ∙ c.if-same_bytes.false) (sym c.same_bytes-2.ensures ∙ c.if-same_bytes-2.false) c.first.ensures (sym c.same_bytes-3.ensures ∙ c.if-same_bytes-3.false)
