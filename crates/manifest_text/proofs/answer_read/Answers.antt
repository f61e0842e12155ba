-- `answer_read`: what is kept of an input has the answers of the whole input.
use mathlib.Core.Path.{ap, ◌∙◌}
use Rattle.std.proofs.lemmas.Result.{on_ok_weaker}
use Rattle.manifest_text.specs.Commands.{command_in, types_in}
use Rattle.manifest_text.proofs.Answering.{same_so, read_answer}
use Rattle.manifest_text.proofs.answer_read.Goals as goal

pub returns : goal.returns
returns g c =
    let a = c.args in
    let line = c.first-named.ensures in
    λ d m input name text held.
    on_ok_weaker c.answer.result
    (λ x. read_answer d m input a.at a.line.now a.given.now name text held (same_so (c.types_in-types.ensures ∙ ap types_in line) (c.command_in-command.ensures ∙ ap command_in line) c.first.ensures x))
    c.answer.ensures
