-- `pieces_spellable`: no name, or the first piece, then the second.
use native.Mathlib.Omega.{arith}
use Rattle.rules.specs.Format.{form_of}
use Rattle.format.specs.Numbers.{name_number}
use Rattle.format.proofs.Line.{digits_in, none_to_check, first_wrong, second_decides}
use Rattle.notation.specs.Printer.{spellable}
use Rattle.printable.proofs.OneField.{no_name_there}
use Rattle.printable.proofs.fields.pieces_spellable.Goals as goal

pub returns-then-line-eq0 : goal.returns-then-line-eq0
returns-then-line-eq0 c t e = let d = (digits_in t e).names in none_to_check (spellable _ _) name_number _ (form_of t) (λ q x. no_name_there _ _ q (λ z. absurd (omega arith)) x) (omega (arith, d, c.if-line-eq0.true)) (omega (arith, d, c.if-line-eq0.true))

pub returns-then-not-name_spellable : goal.returns-then-not-name_spellable
returns-then-not-name_spellable c t e = first_wrong (spellable _ _) name_number _ (form_of t) (digits_in t e).name1 c.name_spellable.ensures c.if-not-name_spellable.true

pub returns : goal.returns
returns c t e = second_decides (spellable _ _) name_number _ (form_of t) (digits_in t e).name1 c.name_spellable.ensures c.if-not-name_spellable.false (digits_in t e).name2 (digits_in t e).first c.name_spellable-2.ensures
