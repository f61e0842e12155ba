-- `command_behind`: the digits, the space and the command in turn.
use mathlib.Core.Path.{sym, ap, ◌∙◌}
use mathlib.Core.List.{[], ◌∷◌}
use lib.ListN.{take}
use Rattle.rules.specs.Compile.{same_bytes}
use Rattle.input.proofs.Digits.{some_told, none_told}
use Rattle.manifest_text.specs.Commands.{offset_of, command_of}
use Rattle.manifest_text.proofs.FirstLine.{nothing_behind, then_behind}
use Rattle.manifest_text.proofs.command_behind.Goals as goal

pub returns-in_err-offset_of : goal.returns-in_err-offset_of
returns-in_err-offset_of c = rw c.from_residual.ensures (nothing_behind _ (ap offset_of c.first.ensures) (none_told _ c.in_err-offset_of.ensures))

pub returns-then-same_bytes : goal.returns-then-same_bytes
returns-then-same_bytes c =
    let space = c.first-2.ensures ∙ ap (take 1) c.past.ensures in
    let told = some_told _ c.in_ok-offset_of.ensures in
    c.command_of.ensures
    ∙ ap command_of c.past-then-same_bytes.ensures
    ∙ then_behind _ (ap offset_of c.first.ensures) told.1 (sym (ap (same_bytes (32 ∷ [])) space) ∙ sym c.same_bytes.ensures ∙ c.if-same_bytes.true)

pub returns : goal.returns
returns c =
    let space = c.first-2.ensures ∙ ap (take 1) c.past.ensures in
    let told = some_told _ c.in_ok-offset_of.ensures in
    then_behind _ (ap offset_of c.first.ensures) told.1 (sym (ap (same_bytes (32 ∷ [])) space) ∙ sym c.same_bytes.ensures ∙ c.if-same_bytes.false)
