-- `put_unsigned`: the digits are counted, then stored.
use mathlib.Core.Path.{ap, ◌∙◌}
use native.Mathlib.Omega.{arith}
use lib.Seq.{sets}
use Rattle.values.specs.Decimal.{decimal}
use Rattle.values.proofs.Digits.{last_decimal, text_long, text_stored}
use Rattle.values.proofs.decimal.put_unsigned.Goals as goal

pub returns-then-out-count : goal.returns-then-out-count
returns-then-out-count c =
    let s = c.args in
    text_long (decimal s.n) s.out.now (omega (arith, c.digit_count-count.ensures))

pub returns : goal.returns
returns c =
    let s = c.args in
    let count = c.digit_count-count in
    text_stored (decimal s.n) s.out.now _ count.result count.ensures (omega arith)
    (c.put_digits.ensures ∙ ap (sets s.out.now 0) (last_decimal count.result s.n count.ensures))
