-- `pair_at`: a way for each test.
use mathlib.Core.Path.{sym}
use native.Mathlib.Omega.{arith}
use Rattle.run_cases.proofs.Texts.{no_pair, first_no_digit, second_no_digit, two_digits}
use Rattle.run_cases.proofs.text.pair_at.Goals as goal

pub returns-then-text-i-lt2 : goal.returns-then-text-i-lt2
returns-then-text-i-lt2 c = sym (no_pair _ _ (omega arith))

pub returns-then-high-gt15 : goal.returns-then-high-gt15
returns-then-high-gt15 c = first_no_digit _ _ _ c.hex_value-high.ensures c.if-high-gt15.true

pub returns-then-low-gt15 : goal.returns-then-low-gt15
returns-then-low-gt15 c = second_no_digit _ _ _ _ c.hex_value-high.ensures c.if-high-gt15.false c.hex_value-low.ensures c.if-low-gt15.true

pub returns : goal.returns
returns c = two_digits _ _ _ _ c.hex_value-high.ensures c.if-high-gt15.false c.hex_value-low.ensures c.if-low-gt15.false
