-- An integer by two numbers, how far it is above 0 and how far below: sums, orders and ranges of integers become linear arithmetic on them.
-- Assumes nothing.
use mathlib.Core.Path.{◌≡◌, refl, sym, ap, ◌∙◌, subst}
use mathlib.Core.Bool.{Bool, true, false, cond}
use Prim.Native.Nat.{ℕ, zero, suc, ◌+◌, ◌-◌, ◌^◌, ◌≤◌, ◌<◌}
use native.Mathlib.Omega.{arith}
use borrow.Author.Tests.{ltb-true, ltb-false, leb-true, leb-false, lt-ltb, le-ltb}
use lib.Dec.{T, ltb}
use lib.IntN.{ℤ, pos, negsuc, neg_ℤ, sub_ℕ, ◌+ℤ◌, ◌-ℤ◌}
use lib.Signed.{lt_z, le_z}
use mir.Syntax.{w64}
use mir.Val.{SFits, to_z, of_z}
use mir.ValLaws.{to_z-of_z}
use Rattle.values.specs.Computed.{computed}
use Rattle.values.specs.Integers.{fits64}
use Rattle.std.specs.Prelude.{Result, Ok, Err}
use Rattle.values.specs.declared.ArithmeticError.{ArithmeticError}
use Rattle.values.specs.declared.ArithmeticError.TheVariants.{Overflow}

unfoldable pub up : ℤ → ℕ
up (pos n) = n
up (negsuc n) = 0

unfoldable pub down : ℤ → ℕ
down (pos n) = 0
down (negsuc n) = suc n

pub never {ℓ} : {X : Type ℓ} → false ≡ true → X
never e = absurd (subst T (sym e) tt)

-- ---- sums and differences

sub_parts : (a b : ℕ) → up (sub_ℕ a b) + b ≡ down (sub_ℕ a b) + a
unfolding up down
sub_parts a b = go (ltb a b) refl
  where
    go : (t : Bool) → ltb a b ≡ t → up (cond t (negsuc (b - suc a)) (pos (a - b))) + b ≡ down (cond t (negsuc (b - suc a)) (pos (a - b))) + a
    go true e = omega (arith, ltb-true a b e)
    go false e = omega (arith, ltb-false a b e)

pub plus_parts : (a b : ℤ) → up (a +ℤ b) + (down a + down b) ≡ down (a +ℤ b) + (up a + up b)
unfolding up down
plus_parts (pos a) (pos b) = omega arith
plus_parts (pos a) (negsuc b) = omega (arith, sub_parts a (suc b))
plus_parts (negsuc a) (pos b) = omega (arith, sub_parts b (suc a))
plus_parts (negsuc a) (negsuc b) = omega arith

neg_up : (a : ℤ) → up (neg_ℤ a) ≡ down a
unfolding up down
neg_up (pos zero) = refl
neg_up (pos (suc n)) = refl
neg_up (negsuc n) = refl

neg_down : (a : ℤ) → down (neg_ℤ a) ≡ up a
unfolding up down
neg_down (pos zero) = refl
neg_down (pos (suc n)) = refl
neg_down (negsuc n) = refl

pub minus_parts : (a b : ℤ) → up (a -ℤ b) + (down a + up b) ≡ down (a -ℤ b) + (up a + down b)
minus_parts a b = omega (arith, plus_parts a (neg_ℤ b), neg_up b, neg_down b)

-- ---- the order

pub lt_parts : (a b : ℤ) → lt_z a b ≡ true → up a + down b < up b + down a
unfolding up down
lt_parts (pos a) (pos b) e = omega (arith, ltb-true a b e)
lt_parts (pos a) (negsuc b) e = never e
lt_parts (negsuc a) (pos b) e = omega arith
lt_parts (negsuc a) (negsuc b) e = omega (arith, ltb-true b a e)

pub ge_parts : (a b : ℤ) → lt_z a b ≡ false → up b + down a ≤ up a + down b
unfolding up down
ge_parts (pos a) (pos b) e = omega (arith, ltb-false a b e)
ge_parts (pos a) (negsuc b) e = omega arith
ge_parts (negsuc a) (pos b) e = never (sym e)
ge_parts (negsuc a) (negsuc b) e = omega (arith, ltb-false b a e)

pub leq_parts : (a b : ℤ) → le_z a b ≡ true → up a + down b ≤ up b + down a
unfolding up down
leq_parts (pos a) (pos b) e = omega (arith, leb-true a b e)
leq_parts (pos a) (negsuc b) e = never e
leq_parts (negsuc a) (pos b) e = omega arith
leq_parts (negsuc a) (negsuc b) e = omega (arith, leb-true b a e)

pub gt_parts : (a b : ℤ) → le_z a b ≡ false → up b + down a < up a + down b
unfolding up down
gt_parts (pos a) (pos b) e = omega (arith, leb-false a b e)
gt_parts (pos a) (negsuc b) e = omega arith
gt_parts (negsuc a) (pos b) e = never (sym e)
gt_parts (negsuc a) (negsuc b) e = omega (arith, leb-false b a e)

-- ---- 64 bits

pub up_small : (z : ℤ) → SFits w64 z → up z < 2 ^ 63
unfolding up
up_small (pos n) f = f.sfits
up_small (negsuc n) f = omega arith

pub down_small : (z : ℤ) → SFits w64 z → down z ≤ 2 ^ 63
unfolding down
down_small (pos n) f = omega arith
down_small (negsuc n) f = f.sfits

pub within : (z : ℤ) → up z < 2 ^ 63 + down z → down z ≤ 2 ^ 63 + up z → SFits w64 z
unfolding up down
within (pos n) h l = record { sfits = omega arith }
within (negsuc n) h l = record { sfits = omega arith }

pub in_range_lem : (z : ℤ) → SFits w64 z → fits64 z ≡ true
unfolding fits64
in_range_lem (pos n) f = lt-ltb n 9223372036854775808 f.sfits
in_range_lem (negsuc n) f = lt-ltb n 9223372036854775808 f.sfits

above : (z : ℤ) → 2 ^ 63 + down z ≤ up z → fits64 z ≡ false
unfolding fits64 up down
above (pos n) h = le-ltb n 9223372036854775808 (omega arith)
above (negsuc n) h = absurd (omega arith)

below : (z : ℤ) → 2 ^ 63 + up z < down z → fits64 z ≡ false
unfolding fits64 up down
below (pos n) h = absurd (omega arith)
below (negsuc n) h = le-ltb n 9223372036854775808 (omega arith)

-- ---- what an operation answers

abbrev inside : Bool → ℤ → Result ℤ ArithmeticError
inside b z = elim b [ true ↦ Ok z | false ↦ Err Overflow ]

pub answer_over : (z : ℤ) → 2 ^ 63 + down z ≤ up z → Err Overflow ≡ computed false z
unfolding computed
answer_over z h = ap (λ (b : Bool). inside b z) (sym (above z h))

pub answer_under : (z : ℤ) → 2 ^ 63 + up z < down z → Err Overflow ≡ computed false z
unfolding computed
answer_under z h = ap (λ (b : Bool). inside b z) (sym (below z h))

-- the integer is read from the bits that hold it
pub answer_in : (z : ℤ) → SFits w64 z → Ok (to_z w64 (of_z w64 z)) ≡ computed false z
unfolding computed
answer_in z f = ap Ok (to_z-of_z w64 z f) ∙ ap (λ (b : Bool). inside b z) (sym (in_range_lem z f))
