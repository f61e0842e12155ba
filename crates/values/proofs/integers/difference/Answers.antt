-- `difference`: the operands are read from their bits, and each path is a law of `Sums`.
use mathlib.Core.Path.{◌≡◌, ap, ◌∙◌}
use mathlib.Core.Bool.{false}
use lib.IntN.{ℤ, ◌-ℤ◌}
use mir.Syntax.{w64}
use mir.Val.{to_z, of_z, SFits}
use mir.ValLaws.{to_z-of_z}
use Rattle.values.specs.Computed.{computed}
use Rattle.values.proofs.Parts.{answer_in}
use Rattle.values.proofs.Sums.{seen_fits, difference_room_up, difference_in_up, difference_under, difference_room_down, difference_in_down, difference_over}
use Rattle.values.proofs.integers.difference.Goals as goal

same : (a b : ℤ) → SFits w64 a → SFits w64 b → computed false (to_z w64 (of_z w64 a) -ℤ to_z w64 (of_z w64 b)) ≡ computed false (a -ℤ b)
same a b p q =
    ap (λ (z : ℤ). computed false (z -ℤ to_z w64 (of_z w64 b))) (to_z-of_z w64 a p)
    ∙ ap (λ (z : ℤ). computed false (a -ℤ z)) (to_z-of_z w64 b q)

pub overflow_add-b : goal.overflow_add-b
overflow_add-b c = difference_room_up _ _ (seen_fits c.ranges.a) (seen_fits c.ranges.b) c.if-b-gt0.true

pub overflow_sub-result : goal.overflow_sub-result
overflow_sub-result c =
    difference_in_up _ _ (seen_fits c.ranges.a) (seen_fits c.ranges.b) c.if-b-gt0.true c.if-b-a.true

pub overflow_add-b-2 : goal.overflow_add-b-2
overflow_add-b-2 c = difference_room_down _ _ (seen_fits c.ranges.a) (seen_fits c.ranges.b) c.if-b-gt0.false

pub overflow_sub-result-then-a-b : goal.overflow_sub-result-then-a-b
overflow_sub-result-then-a-b c =
    difference_in_down _ _ (seen_fits c.ranges.a) (seen_fits c.ranges.b) c.if-b-gt0.false c.if-a-b.true

pub returns-then-b-a : goal.returns-then-b-a
returns-then-b-a c = answer_in _ (difference_in_up _ _ (seen_fits c.ranges.a) (seen_fits c.ranges.b) c.if-b-gt0.true c.if-b-a.true) ∙ same _ _ c.ranges.a c.ranges.b

pub returns-then-b-gt0 : goal.returns-then-b-gt0
returns-then-b-gt0 c = difference_under _ _ (seen_fits c.ranges.a) (seen_fits c.ranges.b) c.if-b-gt0.true c.if-b-a.false ∙ same _ _ c.ranges.a c.ranges.b

pub returns-then-a-b : goal.returns-then-a-b
returns-then-a-b c = answer_in _ (difference_in_down _ _ (seen_fits c.ranges.a) (seen_fits c.ranges.b) c.if-b-gt0.false c.if-a-b.true) ∙ same _ _ c.ranges.a c.ranges.b

pub returns : goal.returns
returns c = difference_over _ _ (seen_fits c.ranges.a) (seen_fits c.ranges.b) c.if-b-gt0.false c.if-a-b.false ∙ same _ _ c.ranges.a c.ranges.b
