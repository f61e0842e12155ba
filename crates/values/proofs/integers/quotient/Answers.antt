-- `quotient`: each path is a law of `Division`.
use mathlib.Core.Path.{◌≡◌}
use mathlib.Core.Logic.{◌⊎◌, inl, inr}
use Prim.Native.Nat.{ℕ}
use borrow.Author.Tests.{eqb-true}
use Rattle.values.proofs.Division.{ways, divisor_above, divides_by_zero, divides_least}
use Rattle.values.proofs.integers.quotient.Goals as goal

-- the least integer is not divided by −1
apart : {a b : ℕ} → (a ≡ 9223372036854775808 × (b ≡ 18446744073709551615 → ⊥)) ⊎ (a ≡ 9223372036854775808 → ⊥) → a ≡ 9223372036854775808 → b ≡ 18446744073709551615 → ⊥
apart (inl w) p q = w.1 q
apart (inr w) p q = w p

pub returns-then-b-eq0 : goal.returns-then-b-eq0
returns-then-b-eq0 c = divides_by_zero c.args.a c.args.b c.ranges.b c.if-b-eq0.true

pub returns-then-b-eqminus1 : goal.returns-then-b-eqminus1
returns-then-b-eqminus1 c =
    divides_least c.args.a c.args.b c.ranges.a c.ranges.b c.if-a-eq-LEAST.true (eqb-true _ _ c.if-b-eqminus1.true-raw)

pub nonzero_div-truncated : goal.nonzero_div-truncated
nonzero_div-truncated c = (divisor_above c.args.a c.args.b c.ranges.a c.ranges.b c.if-b-eq0.false (apart c.else-a-eq-LEAST.either), (ways c.args.a c.args.b c.ranges.a c.ranges.b c.if-b-eq0.false (apart c.else-a-eq-LEAST.either)).small)

pub returns-then-remainder-eq0 : goal.returns-then-remainder-eq0
returns-then-remainder-eq0 c = (ways c.args.a c.args.b c.ranges.a c.ranges.b c.if-b-eq0.false (apart c.else-a-eq-LEAST.either)).at_zero c.if-remainder-eq0.true

pub returns-then-remainder-b : goal.returns-then-remainder-b
returns-then-remainder-b c = (ways c.args.a c.args.b c.ranges.a c.ranges.b c.if-b-eq0.false (apart c.else-a-eq-LEAST.either)).at_like c.if-remainder-b.true

pub overflow_sub-result : goal.overflow_sub-result
overflow_sub-result c = (ways c.args.a c.args.b c.ranges.a c.ranges.b c.if-b-eq0.false (apart c.else-a-eq-LEAST.either)).less_small c.if-remainder-eq0.false c.if-remainder-b.false

pub returns : goal.returns
returns c = (ways c.args.a c.args.b c.ranges.a c.ranges.b c.if-b-eq0.false (apart c.else-a-eq-LEAST.either)).at_unlike c.if-remainder-eq0.false c.if-remainder-b.false
