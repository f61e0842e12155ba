-- `sum`: the operands are read from their bits, and each path is a law of `Sums`.
use mathlib.Core.Path.{◌≡◌, ap, ◌∙◌}
use mathlib.Core.Bool.{false}
use lib.IntN.{ℤ, ◌+ℤ◌}
use mir.Syntax.{w64}
use mir.Val.{to_z, of_z, SFits}
use mir.ValLaws.{to_z-of_z}
use Rattle.values.specs.Computed.{computed}
use Rattle.values.proofs.Parts.{answer_in}
use Rattle.values.proofs.Sums.{seen_fits, sum_room_up, sum_in_up, sum_over, sum_room_down, sum_in_down, sum_under}
use Rattle.values.proofs.integers.sum.Goals as goal

same : (a b : ℤ) → SFits w64 a → SFits w64 b → computed false (to_z w64 (of_z w64 a) +ℤ to_z w64 (of_z w64 b)) ≡ computed false (a +ℤ b)
same a b p q =
    ap (λ (z : ℤ). computed false (z +ℤ to_z w64 (of_z w64 b))) (to_z-of_z w64 a p)
    ∙ ap (λ (z : ℤ). computed false (a +ℤ z)) (to_z-of_z w64 b q)

pub overflow_sub-b : goal.overflow_sub-b
overflow_sub-b c = sum_room_up _ _ (seen_fits c.ranges.a) (seen_fits c.ranges.b) c.if-b-gt0.true

pub overflow_add-result : goal.overflow_add-result
overflow_add-result c =
    sum_in_up _ _ (seen_fits c.ranges.a) (seen_fits c.ranges.b) c.if-b-gt0.true c.if-a-b.true

pub overflow_sub-b-2 : goal.overflow_sub-b-2
overflow_sub-b-2 c = sum_room_down _ _ (seen_fits c.ranges.a) (seen_fits c.ranges.b) c.if-b-gt0.false

pub overflow_add-result-then-b-a : goal.overflow_add-result-then-b-a
overflow_add-result-then-b-a c =
    sum_in_down _ _ (seen_fits c.ranges.a) (seen_fits c.ranges.b) c.if-b-gt0.false c.if-b-a.true

pub returns-then-a-b : goal.returns-then-a-b
returns-then-a-b c = answer_in _ (sum_in_up _ _ (seen_fits c.ranges.a) (seen_fits c.ranges.b) c.if-b-gt0.true c.if-a-b.true) ∙ same _ _ c.ranges.a c.ranges.b

pub returns-then-b-gt0 : goal.returns-then-b-gt0
returns-then-b-gt0 c = sum_over _ _ (seen_fits c.ranges.a) (seen_fits c.ranges.b) c.if-b-gt0.true c.if-a-b.false ∙ same _ _ c.ranges.a c.ranges.b

pub returns-then-b-a : goal.returns-then-b-a
returns-then-b-a c = answer_in _ (sum_in_down _ _ (seen_fits c.ranges.a) (seen_fits c.ranges.b) c.if-b-gt0.false c.if-b-a.true) ∙ same _ _ c.ranges.a c.ranges.b

pub returns : goal.returns
returns c = sum_under _ _ (seen_fits c.ranges.a) (seen_fits c.ranges.b) c.if-b-gt0.false c.if-b-a.false ∙ same _ _ c.ranges.a c.ranges.b
