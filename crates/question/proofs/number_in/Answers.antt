-- `number_in`: no digit, a zero before another digit, or digits.
use mathlib.Core.Path.{◌≡◌, sym, ap, ◌∙◌}
use Prim.Native.Nat.{◌<◌}
use native.Mathlib.Omega.{arith}
use borrow.Author.Tests.{eqb-true, eqb-false}
use lib.ListN.{length, get_or}
use Rattle.input.specs.Numbers.{up_to}
use Rattle.input.proofs.Digits.{none_up_to}
use Rattle.question.proofs.Reading.{number_none, number_zero, number_more}
use Rattle.question.proofs.number_in.Goals as goal
use Rattle.question.proofs.number_in.Goals.{else-text-gt1-via-then-text-gt1+else-text-eq48, else-text-gt1-via-else-text-gt1}

pub returns-then-is_empty : goal.returns-then-is_empty
returns-then-is_empty c =
    none_up_to _ _ (omega (arith, number_none c.args.most c.args.text.now (eqb-true _ _ (sym c.if-is_empty.ensures))))

pub returns-then-text-eq48 : goal.returns-then-text-eq48
returns-then-text-eq48 c =
    none_up_to _ _ (omega (arith, number_zero c.args.most c.args.text.now c.if-text-gt1.true c.if-text-eq48.true))

pub returns : goal.returns
returns c =
    let text = c.args.text.now in
    let other : 1 < length text → get_or text 0 0 ≡ 48 → ⊥ =
    elim c.else-text-gt1.branch [ else-text-gt1-via-then-text-gt1+else-text-eq48 w ↦ λ more zero. w.if-text-eq48.false zero | else-text-gt1-via-else-text-gt1 w ↦ λ more zero. omega (arith, w.if-text-gt1.false) ] in
    c.number_spelled.ensures ∙ ap (up_to c.args.most) (number_more c.args.most text (eqb-false _ _ (sym c.if-is_empty.ensures)) other)
