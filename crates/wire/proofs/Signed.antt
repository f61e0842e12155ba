-- Two's complement in code: −1 − z for a word and its signed number, where the machine's signed integers are their bits (`of_z`, `to_z`).
use mathlib.Core.Path.{◌≡◌, refl, sym, ap, ◌∙◌}
use mathlib.Core.Bool.{Bool, true, false, true≢false}
use Prim.Native.Nat.{ℕ, zero, suc, ◌-◌, ◌≤◌, ◌<◌}
use native.Mathlib.Omega.{arith}
use borrow.Author.Tests.{ltb-true, le-ltb}
use lib.IntN.{ℤ, pos, negsuc, ◌-ℤ◌}
use lib.Signed.{mag, lt_z}
use mir.Facts.{to_z-of_z, to_z_pos}
use mir.Syntax.{w64}
use mir.Val.{SFits, to_z, of_z}
use Rattle.wire.specs.Numbers.{signed64, word64}
use Rattle.wire.proofs.Laws.{signed_high}

-- −1 − n and −1 − (−(n + 1))
minus_positive : (n : ℕ) → negsuc 0 -ℤ pos n ≡ negsuc n
minus_positive zero = refl
minus_positive (suc n) = ap negsuc (omega arith)

minus_negative : (n : ℕ) → negsuc 0 -ℤ negsuc n ≡ pos n
minus_negative n = rw (le-ltb (suc n) 1 (omega arith)) (ap pos (omega arith))

-- ---- From a word

pub from_word : (n : ℕ) → 9223372036854775808 ≤ n → negsuc 0 -ℤ to_z w64 (18446744073709551615 - n) ≡ negsuc (18446744073709551615 - n)
from_word n h =
    let small : 18446744073709551615 - n < 9223372036854775808 = omega arith in
    ap (λ (z : ℤ). negsuc 0 -ℤ z) (to_z_pos w64 small) ∙ minus_positive (18446744073709551615 - n)

pub from_word_bits : (n : ℕ) → 9223372036854775808 ≤ n → to_z w64 (of_z w64 (negsuc 0 -ℤ to_z w64 (18446744073709551615 - n))) ≡ signed64 n
from_word_bits n h =
    let fits : SFits w64 (negsuc (18446744073709551615 - n)) = record { sfits = omega arith } in
    ap (λ (z : ℤ). to_z w64 (of_z w64 z)) (from_word n h) ∙ to_z-of_z fits ∙ sym (signed_high n h)

-- ---- To a word

below_zero : (z : ℤ) → lt_z z (pos 0) ≡ true → negsuc 0 -ℤ z ≡ pos (mag z)
below_zero (pos n) t = absurd (omega (arith, ltb-true n 0 t))
below_zero (negsuc n) t = minus_negative n

word_below : (z : ℤ) → lt_z z (pos 0) ≡ true → 18446744073709551615 - mag z ≡ word64 z
unfolding word64
word_below (pos n) t = absurd (omega (arith, ltb-true n 0 t))
word_below (negsuc n) t = refl

above_zero : (z : ℤ) → lt_z z (pos 0) ≡ false → z ≡ pos (mag z)
above_zero (pos n) t = refl
above_zero (negsuc n) t = absurd (true≢false t)

word_above : (z : ℤ) → lt_z z (pos 0) ≡ false → mag z ≡ word64 z
unfolding word64
word_above (pos n) t = refl
word_above (negsuc n) t = absurd (true≢false t)

-- the same where z is its bits
module _ (z : ℤ) (fits : SFits w64 z) where
  read : to_z w64 (of_z w64 z) ≡ z
  read = to_z-of_z fits

  sign : {b : Bool} → lt_z (to_z w64 (of_z w64 z)) (pos 0) ≡ b → lt_z z (pos 0) ≡ b
  sign t = ap (λ (x : ℤ). lt_z x (pos 0)) (sym read) ∙ t

  pub negative : lt_z (to_z w64 (of_z w64 z)) (pos 0) ≡ true → negsuc 0 -ℤ to_z w64 (of_z w64 z) ≡ pos (mag z)
  negative t = ap (λ (x : ℤ). negsuc 0 -ℤ x) read ∙ below_zero z (sign t)

  pub negative_word : lt_z (to_z w64 (of_z w64 z)) (pos 0) ≡ true → 18446744073709551615 - mag z ≡ word64 z
  negative_word t = word_below z (sign t)

  pub other : lt_z (to_z w64 (of_z w64 z)) (pos 0) ≡ false → to_z w64 (of_z w64 z) ≡ pos (mag z)
  other t = read ∙ above_zero z (sign t)

  pub other_word : lt_z (to_z w64 (of_z w64 z)) (pos 0) ≡ false → mag z ≡ word64 z
  other_word t = word_above z (sign t)

  -- −1 − z is read from its bits
  pub negative_bits : lt_z (to_z w64 (of_z w64 z)) (pos 0) ≡ true → to_z w64 (of_z w64 (negsuc 0 -ℤ to_z w64 (of_z w64 z))) ≡ pos (mag z)
  negative_bits t = ap (λ (x : ℤ). to_z w64 (of_z w64 x)) (negative t) ∙ to_z_pos w64 fits.sfits
