-- The magnitude of an integer that is read from its bits, and its text. Assumes nothing.
use mathlib.Core.Path.{◌≡◌, refl, ap, ◌∙◌, subst, subst⁻¹}
use mathlib.Core.Bool.{Bool, true, false, cond}
use mathlib.Core.List.{◌∷◌}
use Prim.Native.Nat.{ℕ, suc, ◌+◌, ◌-◌}
use native.Mathlib.Omega.{arith}
use borrow.Author.Tests.{leb-false, le-ltb}
use lib.Dec.{T}
use lib.IntN.{ℤ, pos, negsuc, nat_abs, ◌-ℤ◌}
use lib.Signed.{le_z, mag, non_neg}
use mir.Syntax.{w64}
use mir.Val.{Fits, SFits, to_z, of_z}
use mir.ValLaws.{to_z-of_z}
use Rattle.values.specs.Decimal.{decimal, signed_decimal}
use Rattle.values.proofs.Parts.{never}

-- what a cast to an unsigned integer asks
pub above_zero : (x : ℤ) → SFits w64 x → le_z (pos 0) x ≡ true → T (non_neg x) × Fits w64 (nat_abs x)
above_zero (pos n) f e = (tt, record { fits = omega (arith, f.sfits) })
above_zero (negsuc n) f e = never e

-- −1 − x is one less than the magnitude of z
pub record Below (z x : ℤ) : Type 0 where
  pub small : SFits w64 (negsuc 0 -ℤ x)
  pub value : to_z w64 (of_z w64 (negsuc 0 -ℤ x)) ≡ pos (mag z)
  pub size : mag z + 1 ≡ nat_abs z

one_less : (m : ℕ) → negsuc 0 -ℤ negsuc m ≡ pos m
one_less m =
    let e : suc m - 1 ≡ m = omega arith in
    ap (λ (t : Bool). cond t (negsuc (1 - suc (suc m))) (pos (suc m - 1))) (le-ltb (suc m) 1 (omega arith)) ∙ ap pos e

below_plain : (z : ℤ) → SFits w64 z → le_z (pos 0) z ≡ false → Below z z
below_plain (pos n) f e = absurd (omega (arith, leb-false 0 n e))
below_plain (negsuc m) f e =
    let small : SFits w64 (negsuc 0 -ℤ negsuc m) = subst⁻¹ (SFits w64) (one_less m) (record { sfits = f.sfits }) in
    record { small = small; value = to_z-of_z w64 (negsuc 0 -ℤ negsuc m) small ∙ one_less m; size = omega arith }

module _ (z : ℤ) (f : SFits w64 z) where
  seen : (t : Bool) → le_z (pos 0) (to_z w64 (of_z w64 z)) ≡ t → le_z (pos 0) z ≡ t
  seen t = subst (λ (x : ℤ). le_z (pos 0) x ≡ t) (to_z-of_z w64 z f)

  pub below_zero : le_z (pos 0) (to_z w64 (of_z w64 z)) ≡ false → Below z (to_z w64 (of_z w64 z))
  below_zero e = subst⁻¹ (Below z) (to_z-of_z w64 z f) (below_plain z f (seen false e))

  pub text_above : (n : ℕ) → n ≡ nat_abs (to_z w64 (of_z w64 z)) → le_z (pos 0) (to_z w64 (of_z w64 z)) ≡ true → decimal n ≡ signed_decimal z
  unfolding signed_decimal
  text_above n p e = ap decimal (p ∙ ap nat_abs (to_z-of_z w64 z f)) ∙ plain z (seen true e)
    where
      plain : (z : ℤ) → le_z (pos 0) z ≡ true → decimal (nat_abs z) ≡ signed_decimal z
      plain (pos n) e = refl
      plain (negsuc n) e = never e

  pub text_below : (n : ℕ) → n ≡ nat_abs (to_z w64 (of_z w64 z)) → le_z (pos 0) (to_z w64 (of_z w64 z)) ≡ false → 45 ∷ decimal n ≡ signed_decimal z
  unfolding signed_decimal
  text_below n p e = ap (λ (k : ℕ). 45 ∷ decimal k) (p ∙ ap nat_abs (to_z-of_z w64 z f)) ∙ plain z (seen false e)
    where
      plain : (z : ℤ) → le_z (pos 0) z ≡ false → 45 ∷ decimal (nat_abs z) ≡ signed_decimal z
      plain (pos n) e = absurd (omega (arith, leb-false 0 n e))
      plain (negsuc n) e = refl
