-- `names_right`: nothing to check, or the first piece, then the second.
use native.Mathlib.Omega.{arith}
use Rattle.rules.specs.Format.{form_of, name_right, names_right}
use Rattle.format.specs.Numbers.{name_number}
use Rattle.format.proofs.Line.{digits_in, no_name, none_to_check, first_wrong, second_decides}
use Rattle.format.proofs.lines.names_right.Goals as goal

pub returns-then-line-eq0 : goal.returns-then-line-eq0
unfolding names_right
returns-then-line-eq0 c t e = let d = (digits_in t e).names in none_to_check (name_right _ _) name_number _ (form_of t) (λ q x. no_name _ q _ (λ z. absurd (omega arith)) x) (omega (arith, d, c.if-line-eq0.true)) (omega (arith, d, c.if-line-eq0.true))

pub returns-then-not-name_right : goal.returns-then-not-name_right
unfolding names_right
returns-then-not-name_right c t e = first_wrong (name_right _ _) name_number _ (form_of t) (digits_in t e).name1 c.name_right.ensures c.if-not-name_right.true

pub returns : goal.returns
unfolding names_right
returns c t e = second_decides (name_right _ _) name_number _ (form_of t) (digits_in t e).name1 c.name_right.ensures c.if-not-name_right.false (digits_in t e).name2 (digits_in t e).first c.name_right-2.ensures
