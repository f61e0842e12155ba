-- `read_number`: the number so far and the digits left make the whole.
use mathlib.Core.Path.{refl, ◌∙◌}
use native.Mathlib.Omega.{arith}
use Rattle.run_cases.proofs.Texts.{number_more, number_stops, number_ends}
use Rattle.run_cases.proofs.text.read_number.Goals as goal

pub loop-byte-init : goal.loop-byte-init
loop-byte-init c = (refl, omega arith)

pub returns-then-digit-gt9 : goal.returns-then-digit-gt9
returns-then-digit-gt9 c = record { value = number_stops _ _ _ _ _ c.loop-byte-test.true c.hex_value-digit.ensures c.if-digit-gt9.true ∙ c.loop-byte.invariant.0; upper_bound = c.loop-byte.invariant.1 }

pub loop-byte-preserved : goal.loop-byte-preserved
loop-byte-preserved c = (rw c.with_digit-n.ensures (number_more _ _ _ _ _ c.loop-byte-test.true c.hex_value-digit.ensures c.if-digit-gt9.false ∙ c.loop-byte.invariant.0), omega (arith, c.with_digit-n.ensures))

pub returns : goal.returns
returns c = record { value = number_ends _ _ _ _ c.loop-byte-test.false ∙ c.loop-byte.invariant.0; upper_bound = c.loop-byte.invariant.1 }
