-- The tests of `sum` and `difference` settle whether the result has 64 bits. x and y are the operands as they are read from their bits.
-- Assumes nothing.
use mathlib.Core.Path.{◌≡◌, subst, subst⁻¹}
use mathlib.Core.Bool.{Bool, true, false}
use native.Mathlib.Omega.{arith}
use lib.IntN.{ℤ, pos, negsuc, ◌+ℤ◌, ◌-ℤ◌}
use lib.Signed.{lt_z, le_z}
use mir.Syntax.{w64}
use mir.Val.{SFits, to_z, of_z}
use mir.ValLaws.{to_z-of_z}
use Rattle.values.specs.Computed.{computed}
use Rattle.values.proofs.Parts.{up, down, plus_parts, minus_parts, lt_parts, ge_parts, leq_parts, gt_parts, up_small, down_small, within, answer_over, answer_under}
use Rattle.std.specs.Prelude.{Err}
use Rattle.values.specs.declared.ArithmeticError.TheVariants.{Overflow}

abbrev seen : ℤ → ℤ
seen z = to_z w64 (of_z w64 z)

abbrev greatest : ℤ
greatest = pos 9223372036854775807

abbrev least : ℤ
least = negsuc 9223372036854775807

seen_left : (z x : ℤ) (t : Bool) → SFits w64 z → le_z (seen z) x ≡ t → le_z z x ≡ t
seen_left z x t f = subst (λ (v : ℤ). le_z v x ≡ t) (to_z-of_z w64 z f)

seen_right : (z x : ℤ) (t : Bool) → SFits w64 z → le_z x (seen z) ≡ t → le_z x z ≡ t
seen_right z x t f = subst (λ (v : ℤ). le_z x v ≡ t) (to_z-of_z w64 z f)

pub seen_fits : {z : ℤ} → SFits w64 z → SFits w64 (seen z)
seen_fits {z} f = subst⁻¹ (SFits w64) (to_z-of_z w64 z f) f

module _ (x y : ℤ) (fx : SFits w64 x) (fy : SFits w64 y) where
  -- ---- the sum, where y is above 0

  pub sum_room_up : lt_z (pos 0) y ≡ true → SFits w64 (greatest -ℤ y)
  unfolding up down
  sum_room_up p = within _ (omega (arith, minus_parts greatest y, lt_parts (pos 0) y p)) (omega (arith, minus_parts greatest y, up_small y fy))

  pub sum_in_up : lt_z (pos 0) y ≡ true → le_z x (seen (greatest -ℤ y)) ≡ true → SFits w64 (x +ℤ y)
  unfolding up down
  sum_in_up p q = within _ (omega (arith, plus_parts x y, minus_parts greatest y, leq_parts x (greatest -ℤ y) (seen_right _ x true (sum_room_up p) q))) (omega (arith, plus_parts x y, lt_parts (pos 0) y p, down_small x fx))

  pub sum_over : lt_z (pos 0) y ≡ true → le_z x (seen (greatest -ℤ y)) ≡ false → Err Overflow ≡ computed false (x +ℤ y)
  unfolding up down
  sum_over p q = answer_over _ (omega (arith, plus_parts x y, minus_parts greatest y, gt_parts x (greatest -ℤ y) (seen_right _ x false (sum_room_up p) q)))

  -- ---- and where it is not

  pub sum_room_down : lt_z (pos 0) y ≡ false → SFits w64 (least -ℤ y)
  unfolding up down
  sum_room_down p = within _ (omega (arith, minus_parts least y, down_small y fy)) (omega (arith, minus_parts least y, ge_parts (pos 0) y p))

  pub sum_in_down : lt_z (pos 0) y ≡ false → le_z (seen (least -ℤ y)) x ≡ true → SFits w64 (x +ℤ y)
  unfolding up down
  sum_in_down p q = within _ (omega (arith, plus_parts x y, ge_parts (pos 0) y p, up_small x fx)) (omega (arith, plus_parts x y, minus_parts least y, leq_parts (least -ℤ y) x (seen_left _ x true (sum_room_down p) q)))

  pub sum_under : lt_z (pos 0) y ≡ false → le_z (seen (least -ℤ y)) x ≡ false → Err Overflow ≡ computed false (x +ℤ y)
  unfolding up down
  sum_under p q = answer_under _ (omega (arith, plus_parts x y, minus_parts least y, gt_parts (least -ℤ y) x (seen_left _ x false (sum_room_down p) q)))

  -- ---- the difference, where y is above 0

  pub difference_room_up : lt_z (pos 0) y ≡ true → SFits w64 (least +ℤ y)
  unfolding up down
  difference_room_up p = within _ (omega (arith, plus_parts least y, up_small y fy)) (omega (arith, plus_parts least y, lt_parts (pos 0) y p))

  pub difference_in_up : lt_z (pos 0) y ≡ true → le_z (seen (least +ℤ y)) x ≡ true → SFits w64 (x -ℤ y)
  unfolding up down
  difference_in_up p q = within _ (omega (arith, minus_parts x y, lt_parts (pos 0) y p, up_small x fx)) (omega (arith, minus_parts x y, plus_parts least y, leq_parts (least +ℤ y) x (seen_left _ x true (difference_room_up p) q)))

  pub difference_under : lt_z (pos 0) y ≡ true → le_z (seen (least +ℤ y)) x ≡ false → Err Overflow ≡ computed false (x -ℤ y)
  unfolding up down
  difference_under p q = answer_under _ (omega (arith, minus_parts x y, plus_parts least y, gt_parts (least +ℤ y) x (seen_left _ x false (difference_room_up p) q)))

  -- ---- and where it is not

  pub difference_room_down : lt_z (pos 0) y ≡ false → SFits w64 (greatest +ℤ y)
  unfolding up down
  difference_room_down p = within _ (omega (arith, plus_parts greatest y, ge_parts (pos 0) y p)) (omega (arith, plus_parts greatest y, down_small y fy))

  pub difference_in_down : lt_z (pos 0) y ≡ false → le_z x (seen (greatest +ℤ y)) ≡ true → SFits w64 (x -ℤ y)
  unfolding up down
  difference_in_down p q = within _ (omega (arith, minus_parts x y, plus_parts greatest y, leq_parts x (greatest +ℤ y) (seen_right _ x true (difference_room_down p) q))) (omega (arith, minus_parts x y, ge_parts (pos 0) y p, down_small x fx))

  pub difference_over : lt_z (pos 0) y ≡ false → le_z x (seen (greatest +ℤ y)) ≡ false → Err Overflow ≡ computed false (x -ℤ y)
  unfolding up down
  difference_over p q = answer_over _ (omega (arith, minus_parts x y, plus_parts greatest y, gt_parts x (greatest +ℤ y) (seen_right _ x false (difference_room_down p) q)))
