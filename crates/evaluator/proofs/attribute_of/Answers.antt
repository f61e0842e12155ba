-- `attribute_of`: the title is no string, its type is unknown, the catalog has the attribute, or has not.
use native.Mathlib.Omega.{arith}
use Rattle.evaluator.proofs.Operators.{unlike_string}
use Rattle.evaluator.proofs.Reading.{title_unlike, type_unknown, attribute_there, attribute_missing}
use Rattle.evaluator.proofs.Outcomes.{refusal_joined, value_joined, value_is}
use Rattle.labels.proofs.Words.{grows_none, grows_joined}
use Rattle.labels.specs.Words.{labels_in}
use Rattle.rules.specs.Outcome.{joining}
use mathlib.Core.Path.{refl, ap, ◌∙◌}
use Rattle.evaluator.proofs.attribute_of.Goals as goal

pub returns-in_default : goal.returns-in_default
returns-in_default c =
    let set = c.args.set in
    (grows_none (omega arith), λ k es r. refusal_joined _ _ c.at.ensures ∙ ap (joining (labels_in set.now)) (title_unlike _ _ _ _ _ _ _ (unlike_string _ c.in_default.not-String) refl k es r))

pub returns-then-not-is_type : goal.returns-then-not-is_type
returns-then-not-is_type c =
    let set = c.args.set in
    (grows_none (omega arith), λ k es r. refusal_joined _ _ c.at-then-not-is_type.ensures ∙ ap (joining (labels_in set.now)) (type_unknown _ _ _ _ _ _ _ c.in-String.is c.two_at-kind.ensures c.is_type.ensures c.if-not-is_type.true-raw refl k es r))

pub returns : goal.returns
returns c =
    let set = c.args.set in
    let joins = c.join.ensures in
    (grows_joined joins, λ k es r. value_joined _ _ _ _ (value_is _) joins.labels ∙ ap (joining (labels_in set.now)) (attribute_there _ _ _ _ _ _ _ c.in-String.is c.two_at-kind.ensures c.is_type.ensures c.if-not-is_type.false-raw c.two_at-name.ensures c.read.ensures _ c.in-Some.is k es r))

pub returns-in_default-read : goal.returns-in_default-read
returns-in_default-read c =
    let set = c.args.set in
    (grows_none (omega arith), λ k es r. refusal_joined _ _ c.at-in_default-read.ensures ∙ ap (joining (labels_in set.now)) (attribute_missing _ _ _ _ _ _ _ c.in-String.is c.two_at-kind.ensures c.is_type.ensures c.if-not-is_type.false-raw c.two_at-name.ensures c.read.ensures c.in_default-read.is refl k es r))
