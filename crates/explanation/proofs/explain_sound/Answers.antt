-- `explain_sound`: the run is refused, or its note answers.
use mathlib.Core.Path.{refl}
use native.Mathlib.Omega.{arith}
use Rattle.syntax.proofs.Faults.{before_sound}
use Rattle.syntax.proofs.StringsRead.{few_strings_lem}
use Rattle.explanation.proofs.Noted.{numbers_small}
use Rattle.explanation.proofs.Whole.{run_refused, run_answers}
use Rattle.explanation.proofs.explain_sound.Goals as goal

pub run_asking-requires : goal.run_asking-requires
run_asking-requires c = let b = before_sound _ c.requires.1.1 in (((c.requires.1.0, (b.sound, b.short)), (c.requires.0, refl)), numbers_small _ _ _ _ c.numbers_of-numbers.ensures (few_strings_lem _ b.sound))

pub answer_noted-requires : goal.answer_noted-requires
answer_noted-requires c = let b = before_sound _ c.requires.1.1 in ((c.requires.1.0, (b.sound, b.short)), (omega (arith, c.requires.0, c.run_asking.auto.work), c.run_asking.auto.out))

pub returns-in_err-run_asking : goal.returns-in_err-run_asking
returns-in_err-run_asking c = run_refused _ _ _ _ _ _ _ _ c.requires.0 c.requires.1.0 c.requires.1.1 c.numbers_of-numbers.ensures c.run_asking.ensures c.in_err-run_asking.was (grind arith)

pub returns : goal.returns
returns c = run_answers _ _ _ _ _ _ _ _ c.requires.0 c.requires.1.0 c.requires.1.1 c.numbers_of-numbers.ensures c.run_asking.ensures (record { below = λ i. omega (arith, c.type_inv.m i) }) (omega arith) c.in_ok-run_asking.was c.answer_noted.ensures
