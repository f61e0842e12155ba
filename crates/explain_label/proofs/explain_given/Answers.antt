-- `explain_given`: the question, by its lines, and by the list's length if there is one.
use mathlib.Core.Path.{refl, ◌∙◌}
use Rattle.explain_label.specs.Answering.{explained}
use Rattle.explain_label.proofs.Answering.{explained_given, explained_listed}
use Rattle.explain_label.proofs.explain_given.Goals as goal

pub returns-in-None : goal.returns-in-None
unfolding explained
returns-in-None c =
    let a = c.args in
    explained_given _ c.requires c.first-device.ensures c.line_between-kind.ensures c.line_between-title.ensures c.line_between-attribute.ensures c.after-rest.ensures refl c.explain.ensures
    ∙ rw c.in-None.is

pub returns-in-Some : goal.returns-in-Some
unfolding explained
returns-in-Some c =
    explained_listed _ c.requires c.first-device.ensures c.line_between-kind.ensures c.line_between-title.ensures c.line_between-attribute.ensures c.in-Some.size c.after-rest.ensures c.first-types.ensures c.past-manifest.ensures refl c.explain_with_types.ensures
    ∙ rw c.in-Some.is
