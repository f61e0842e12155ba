-- `number_spelled`: the number so far and the digits left make the whole.
use mathlib.Core.Path.{◌∙◌}
use native.Mathlib.Omega.{arith}
use Rattle.input.proofs.Digits.{some_told, none_told, some_up_to, none_up_to, digit_more, digits_end, past_here}
use Rattle.input.proofs.numbers.number_spelled.Goals as goal

pub returns-in_err-n : goal.returns-in_err-n
returns-in_err-n c =
    let l = c.loop-byte in
    rw c.from_residual.ensures (none_up_to _ _ (past_here _ c.args.digits.now l.byte-index l.n c.loop-byte-test.true (none_told _ c.in_err-n.ensures) l.invariant.whole))

pub loop-byte-preserved : goal.loop-byte-preserved
loop-byte-preserved c =
    let l = c.loop-byte in
    let told = some_told _ c.in_ok-n.ensures in
    record { whole = rw told.0 (digit_more _ c.args.digits.now l.byte-index l.n c.loop-byte-test.true ∙ l.invariant.whole); low = omega (arith, told) }

pub returns : goal.returns
returns c =
    let l = c.loop-byte in
    let whole = digits_end _ c.args.digits.now l.byte-index l.n c.loop-byte-test.false ∙ l.invariant.whole in
    some_up_to _ whole (omega (arith, whole, l.invariant))
