use Rattle.evaluator.proofs.Operators.{unlike_string}
use native.Mathlib.Omega.{arith}
use mathlib.Core.Path.{refl, subst}
use Rattle.evaluator.proofs.Expressions.{resized}
use Rattle.provenance.specs.Notes.{asked_of}
use Rattle.catalog.specs.Finding.{Below}
use Rattle.provenance.proofs.Notes.{title_unlike, title_other, no_attribute, attribute_noted}
use Rattle.provenance.proofs.titled_note.Goals as goal

pub returns-in_default : goal.returns-in_default
returns-in_default c = title_unlike _ _ _ _ _ _ _ _ (unlike_string _ c.in_default.not-String)

pub returns-then-title-word : goal.returns-then-title-word
unfolding asked_of
returns-then-title-word c = title_other _ _ _ _ _ _ _ _ c.in-String.is c.word.ensures c.if-title-word.true

pub attribute_part-requires : goal.attribute_part-requires
unfolding Below
attribute_part-requires c = resized c.requires (omega (arith, subst (Below c.place-end.result) c.in-Some.is c.find_named.ensures.1, c.place-end.ensures.0))

pub returns-in_default-find_named : goal.returns-in_default-find_named
unfolding asked_of
returns-in_default-find_named c = no_attribute _ _ _ _ _ _ _ _ c.in-String.is c.word.ensures c.if-title-word.false c.end_of-first.ensures c.end_of.ensures c.place-end.ensures c.word-name.ensures c.find_named.ensures.0 c.in_default-find_named.is refl

pub returns : goal.returns
unfolding asked_of
returns c = attribute_noted _ _ _ _ _ _ _ _ c.in-String.is c.word.ensures c.if-title-word.false c.end_of-first.ensures c.end_of.ensures c.place-end.ensures c.word-name.ensures c.find_named.ensures.0 c.in-Some.is c.attribute_part.ensures
