-- `prepare_asking`: the words of the question are stored.
use mathlib.Core.Path.{subst}
use native.Mathlib.Omega.{arith}
use Rattle.explanation.specs.Questions.{Small}
use Rattle.explanation.proofs.Preparing.{nothing_asked_lem, question_asked}
use mathlib.Core.Path.{refl}
use Rattle.explanation.proofs.prepare_asking.Goals as goal

pub overflow_add-asked : goal.overflow_add-asked
overflow_add-asked c = omega (arith, subst Small c.in-Some.is c.requires.1)

pub returns-in_default : goal.returns-in_default
returns-in_default c = nothing_asked_lem c.prepare.ensures _ c.in_default.is

pub returns : goal.returns
returns c = question_asked c.prepare.ensures _ c.set_word.auto.work c.set_word.ensures c.set_word-2.auto.work c.set_word-2.ensures c.set_word-3.auto.work c.set_word-3.ensures c.set_word-4.auto.work c.set_word-4.ensures c.in-Some.is refl (omega arith)
