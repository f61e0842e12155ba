-- Truncating division, corrected by the remainder and the signs, is division toward minus infinity; only the least integer divided by −1 leaves 64 bits.
-- Assumes nothing.
use mathlib.Core.Path.{◌≡◌, refl, sym, ap, ◌∙◌, subst, subst⁻¹}
use mathlib.Core.Bool.{Bool, true, false, beq}
use Prim.Native.Nat.{ℕ, zero, suc, ◌+◌, ◌*◌, ◌/◌, ◌%◌, ◌^◌, ◌≤◌, ◌<◌}
use native.Mathlib.Nat.{div-add-mod', mod-lt, div-le_self, div-lt_self, div-one, zero-mul, suc-mul, lt_of_le_of_lt, zero-lt-suc}
use native.Mathlib.Omega.{arith}
use borrow.Author.Tests.{ltb-true, le-ltb}
use lib.Arith.{digits_div, lt_of_le-ne}
use lib.Dec.{ltb, lit<}
use lib.IntN.{ℤ, pos, negsuc, neg_ℤ, nat_abs, ◌-ℤ◌, -ℤ_one}
use lib.Signed.{lt_z, quot_z, rem_z, mag_rem}
use mir.Syntax.{w64}
use mir.Val.{SFits, to_z, of_z}
use mir.ValLaws.{to_z-of_z, sfits_le}
use Rattle.values.specs.Computed.{computed}
use Rattle.values.specs.Integers.{fits64, is_zero, floor_divide}
use Rattle.values.proofs.Parts.{never, answer_in}
use Rattle.std.specs.Prelude.{Ok, Err}
use Rattle.values.specs.declared.ArithmeticError.TheVariants.{DivisionByZero, Overflow}

-- ---- numbers: q * m + r is divided by m

up_exact : (a b : ℕ) → a % suc b ≡ 0 → (a + b) / suc b ≡ a / suc b
up_exact a b e =
    let f : a + b ≡ a / suc b * suc b + b = omega (arith, div-add-mod' a (suc b)) in
    ap (λ (n : ℕ). n / suc b) f ∙ digits_div (a / suc b) (omega arith)

up_more : (a b r : ℕ) → a % suc b ≡ suc r → (a + b) / suc b ≡ suc (a / suc b)
up_more a b r e =
    let f : a + b ≡ suc (a / suc b) * suc b + r = omega (arith, div-add-mod' a (suc b), suc-mul (a / suc b) (suc b)) in
    ap (λ (n : ℕ). n / suc b) f ∙ digits_div (suc (a / suc b)) (omega (arith, mod-lt a (zero-lt-suc b)))

down_exact : (a b : ℕ) → suc a % suc b ≡ 0 → suc a / suc b ≡ suc (a / suc b)
down_exact a b e = go (suc a / suc b) refl
  where
    go : (q : ℕ) → suc a / suc b ≡ q → suc a / suc b ≡ suc (a / suc b)
    go zero h = absurd (omega (arith, div-add-mod' (suc a) (suc b), ap (λ (q : ℕ). q * suc b) h, zero-mul (suc b)))
    go (suc p) h =
        let f : a ≡ p * suc b + b = omega (arith, div-add-mod' (suc a) (suc b), ap (λ (q : ℕ). q * suc b) h, suc-mul p (suc b)) in
        h ∙ ap suc (sym (ap (λ (n : ℕ). n / suc b) f ∙ digits_div p (omega arith)))

down_same : (a b r : ℕ) → suc a % suc b ≡ suc r → suc a / suc b ≡ a / suc b
down_same a b r e =
    let f : a ≡ suc a / suc b * suc b + r = omega (arith, div-add-mod' (suc a) (suc b)) in
    sym (ap (λ (n : ℕ). n / suc b) f ∙ digits_div (suc a / suc b) (omega (arith, mod-lt (suc a) (zero-lt-suc b))))

abs_neg : (n : ℕ) → nat_abs (neg_ℤ (pos n)) ≡ n
abs_neg zero = refl
abs_neg (suc n) = refl

-- ---- the quotient needs no correction where the remainder is 0 or has the divisor's sign

none_below : {X : Type 0} (n : ℕ) → ltb n 0 ≡ true → X
none_below n e = absurd (omega (arith, ltb-true n 0 e))

beq_true : (t : Bool) → beq t true ≡ t
beq_true true = refl
beq_true false = refl

true_beq : (t : Bool) → beq true t ≡ t
true_beq true = refl
true_beq false = refl

alike : (t u : Bool) → t ≡ u → beq t u ≡ false → ⊥
alike true true p e = never (sym e)
alike true false p e = never (sym p)
alike false true p e = never p
alike false false p e = never (sym e)

pub exact : (a b : ℤ) → is_zero b ≡ false → rem_z a b ≡ pos 0 → quot_z a b ≡ floor_divide a b
unfolding is_zero floor_divide
exact (pos a) (pos b) n e = refl
exact (pos a) (negsuc b) n e = ap (λ (q : ℕ). neg_ℤ (pos q)) (sym (up_exact a b (ap nat_abs e)))
exact (negsuc a) (pos zero) n e = never (sym n)
exact (negsuc a) (pos (suc b)) n e = ap (λ (q : ℕ). neg_ℤ (pos q)) (down_exact a b (sym (abs_neg (suc a % suc b)) ∙ ap nat_abs e))
exact (negsuc a) (negsuc b) n e = refl

pub like : (a b : ℤ) → is_zero b ≡ false → beq (lt_z (rem_z a b) (pos 0)) (lt_z b (pos 0)) ≡ true → quot_z a b ≡ floor_divide a b
unfolding is_zero floor_divide
like (pos a) (pos b) n e = refl
like (pos a) (negsuc b) n e = none_below (a % suc b) (sym (beq_true (ltb (a % suc b) 0)) ∙ e)
like (negsuc a) (pos zero) n e = never (sym n)
like (negsuc a) (pos (suc b)) n e = go (suc a % suc b) refl e
  where
    go : (r : ℕ) → suc a % suc b ≡ r → beq (lt_z (neg_ℤ (pos r)) (pos 0)) (ltb (suc b) 0) ≡ true → neg_ℤ (pos (suc a / suc b)) ≡ negsuc (a / suc b)
    go zero h e = ap (λ (q : ℕ). neg_ℤ (pos q)) (down_exact a b h)
    go (suc r) h e = none_below (suc b) (sym (true_beq (ltb (suc b) 0)) ∙ e)
like (negsuc a) (negsuc b) n e = refl

-- ---- and is one too high otherwise

pred_neg : (k : ℕ) → neg_ℤ (pos k) -ℤ pos 1 ≡ negsuc k
pred_neg zero = refl
pred_neg (suc k) = -ℤ_one (negsuc k)

pub record Corrected (a b : ℤ) : Type 0 where
  pub floor : quot_z a b -ℤ pos 1 ≡ floor_divide a b
  pub fits : SFits w64 (quot_z a b -ℤ pos 1)

corrected : (a b : ℤ) (k : ℕ) → quot_z a b ≡ neg_ℤ (pos k) → negsuc k ≡ floor_divide a b → k < 2 ^ 63 → Corrected a b
corrected a b k p q l =
    let e : quot_z a b -ℤ pos 1 ≡ negsuc k = ap (λ (z : ℤ). z -ℤ pos 1) p ∙ pred_neg k in
    record { floor = e ∙ q; fits = subst⁻¹ (SFits w64) e (record { sfits = l }) }

neg_fits : (k : ℕ) → k ≤ 2 ^ 63 → SFits w64 (neg_ℤ (pos k))
neg_fits zero l = record { sfits = lit< tt }
neg_fits (suc k) l = record { sfits = l }

pub unlike : (a b : ℤ) → SFits w64 a → is_zero b ≡ false → (rem_z a b ≡ pos 0 → ⊥) → beq (lt_z (rem_z a b) (pos 0)) (lt_z b (pos 0)) ≡ false → Corrected a b
unfolding is_zero floor_divide
unlike (pos a) (pos b) f n z e = absurd (alike (ltb (a % b) 0) (ltb b 0) (le-ltb (a % b) 0 (omega arith) ∙ sym (le-ltb b 0 (omega arith))) e)
unlike (pos a) (negsuc b) f n z e = go (a % suc b) refl
  where
    go : (r : ℕ) → a % suc b ≡ r → Corrected (pos a) (negsuc b)
    go zero h = absurd (z (ap pos h))
    go (suc r) h = corrected (pos a) (negsuc b) (a / suc b) refl (ap (λ (q : ℕ). neg_ℤ (pos q)) (sym (up_more a b r h))) (lt_of_le_of_lt (div-le_self a (suc b)) f.sfits)
unlike (negsuc a) (pos zero) f n z e = never (sym n)
unlike (negsuc a) (pos (suc b)) f n z e = go (suc a % suc b) refl
  where
    go : (r : ℕ) → suc a % suc b ≡ r → Corrected (negsuc a) (pos (suc b))
    go zero h = absurd (z (ap (λ (k : ℕ). neg_ℤ (pos k)) h))
    go (suc r) h = corrected (negsuc a) (pos (suc b)) (suc a / suc b) refl (ap negsuc (down_same a b r h)) (omega (arith, down_same a b r h, div-le_self a (suc b), f.sfits))
unlike (negsuc a) (negsuc b) f n z e = go (suc a % suc b) refl e
  where
    go : (r : ℕ) → suc a % suc b ≡ r → beq (lt_z (neg_ℤ (pos r)) (pos 0)) true ≡ false → Corrected (negsuc a) (negsuc b)
    go zero h e = absurd (z (ap (λ (k : ℕ). neg_ℤ (pos k)) h))
    go (suc r) h e = never (sym e)

-- ---- the bits tell the integers apart

pub same_bits : (y z : ℤ) → SFits w64 y → SFits w64 z → of_z w64 y ≡ of_z w64 z → y ≡ z
same_bits y z f g e = sym (to_z-of_z w64 y f) ∙ ap (to_z w64) e ∙ to_z-of_z w64 z g

pub zero_bits : (z : ℤ) → SFits w64 z → of_z w64 z ≡ 0 → z ≡ pos 0
zero_bits z f e = same_bits z (pos 0) f (record { sfits = lit< tt }) e

pub is_zero_lem : (z : ℤ) → SFits w64 z → of_z w64 z ≡ 0 → is_zero z ≡ true
unfolding is_zero
is_zero_lem z f e = ap is_zero (zero_bits z f e)

pub not_zero : (z : ℤ) → (of_z w64 z ≡ 0 → ⊥) → is_zero z ≡ false
unfolding is_zero
not_zero (pos zero) h = absurd (h refl)
not_zero (pos (suc n)) h = refl
not_zero (negsuc n) h = refl

-- ---- the quotient has 64 bits, but for the least integer by −1

pub quotient_fits : (a b : ℤ) → SFits w64 a → (of_z w64 a ≡ 9223372036854775808 → of_z w64 b ≡ 18446744073709551615 → ⊥) → SFits w64 (quot_z a b)
quotient_fits (pos a) (pos b) f h = record { sfits = lt_of_le_of_lt (div-le_self a b) f.sfits }
quotient_fits (pos a) (negsuc b) f h = neg_fits (a / suc b) (omega (arith, div-le_self a (suc b), f.sfits))
quotient_fits (negsuc a) (pos b) f h = neg_fits (suc a / b) (omega (arith, div-le_self (suc a) b, f.sfits))
quotient_fits (negsuc a) (negsuc zero) f h =
    let l : suc a < 2 ^ 63 = lt_of_le-ne f.sfits (λ e. h (omega arith) refl) in
    record { sfits = omega (arith, div-one (suc a)) }
quotient_fits (negsuc a) (negsuc (suc b)) f h = record { sfits = omega (arith, div-lt_self {n = suc a} {k = suc (suc b)} (omega arith) (omega arith), f.sfits) }

-- ---- the paths through `quotient`

pub divides_by_zero : (a b : ℤ) → SFits w64 b → of_z w64 b ≡ 0 → Err DivisionByZero ≡ computed (is_zero b) (floor_divide a b)
unfolding computed
divides_by_zero a b f e = ap (λ (t : Bool). computed t (floor_divide a b)) (sym (is_zero_lem b f e))

pub divides_least : (a b : ℤ) → SFits w64 a → SFits w64 b → of_z w64 a ≡ 9223372036854775808 → of_z w64 b ≡ 18446744073709551615 → Err Overflow ≡ computed (is_zero b) (floor_divide a b)
unfolding computed is_zero floor_divide fits64
divides_least a b f g p q =
    let least : a ≡ negsuc 9223372036854775807 = same_bits a (negsuc 9223372036854775807) f (record { sfits = lit< tt }) p in
    let minus : b ≡ negsuc 0 = same_bits b (negsuc 0) g (record { sfits = lit< tt }) q in
    sym (ap (λ (y : ℤ). computed (is_zero y) (floor_divide a y)) minus ∙ ap (λ (x : ℤ). computed false (floor_divide x (negsuc 0))) least)

-- the quotient and the remainder of x and y answer for a and b
pub record Ways (a b x y : ℤ) : Type 0 where
  pub small : SFits w64 (quot_z x y)
  pub at_zero : of_z w64 (rem_z x y) ≡ 0 → Ok (to_z w64 (of_z w64 (quot_z x y))) ≡ computed (is_zero b) (floor_divide a b)
  pub at_like : beq (lt_z (to_z w64 (of_z w64 (rem_z x y))) (pos 0)) (lt_z y (pos 0)) ≡ true → Ok (to_z w64 (of_z w64 (quot_z x y))) ≡ computed (is_zero b) (floor_divide a b)
  pub less_small : (of_z w64 (rem_z x y) ≡ 0 → ⊥) → beq (lt_z (to_z w64 (of_z w64 (rem_z x y))) (pos 0)) (lt_z y (pos 0)) ≡ false → SFits w64 (to_z w64 (of_z w64 (quot_z x y)) -ℤ pos 1)
  pub at_unlike : (of_z w64 (rem_z x y) ≡ 0 → ⊥) → beq (lt_z (to_z w64 (of_z w64 (rem_z x y))) (pos 0)) (lt_z y (pos 0)) ≡ false → Ok (to_z w64 (of_z w64 (to_z w64 (of_z w64 (quot_z x y)) -ℤ pos 1))) ≡ computed (is_zero b) (floor_divide a b)

module _ (a b : ℤ) (fa : SFits w64 a) (fb : SFits w64 b) (n : of_z w64 b ≡ 0 → ⊥) (h : of_z w64 a ≡ 9223372036854775808 → of_z w64 b ≡ 18446744073709551615 → ⊥) where
  plain : Ways a b a b
  plain = record {
    small = small;
    at_zero = λ e. answer_in (quot_z a b) small ∙ done (quot_z a b) (exact a b (not_zero b n) (zero_bits (rem_z a b) rest e));
    at_like = λ e. answer_in (quot_z a b) small ∙ done (quot_z a b) (like a b (not_zero b n) (signs true e));
    less_small = less;
    at_unlike = λ z e. answer_in _ (less z e) ∙ ap (λ (v : ℤ). computed false (v -ℤ pos 1)) (to_z-of_z w64 (quot_z a b) small) ∙ done (quot_z a b -ℤ pos 1) (one_less z e).floor;
  }
    where
      small : SFits w64 (quot_z a b)
      small = quotient_fits a b fa h

      rest : SFits w64 (rem_z a b)
      rest = sfits_le (mag_rem a b) fa

      done : (z : ℤ) → z ≡ floor_divide a b → computed false z ≡ computed (is_zero b) (floor_divide a b)
      done z e = ap (computed false) e ∙ ap (λ (t : Bool). computed t (floor_divide a b)) (sym (not_zero b n))

      signs : (t : Bool) → beq (lt_z (to_z w64 (of_z w64 (rem_z a b))) (pos 0)) (lt_z b (pos 0)) ≡ t → beq (lt_z (rem_z a b) (pos 0)) (lt_z b (pos 0)) ≡ t
      signs t = subst (λ (v : ℤ). beq (lt_z v (pos 0)) (lt_z b (pos 0)) ≡ t) (to_z-of_z w64 (rem_z a b) rest)

      one_less : (of_z w64 (rem_z a b) ≡ 0 → ⊥) → beq (lt_z (to_z w64 (of_z w64 (rem_z a b))) (pos 0)) (lt_z b (pos 0)) ≡ false → Corrected a b
      one_less z e = unlike a b fa (not_zero b n) (λ p. z (ap (of_z w64) p)) (signs false e)

      less : (of_z w64 (rem_z a b) ≡ 0 → ⊥) → beq (lt_z (to_z w64 (of_z w64 (rem_z a b))) (pos 0)) (lt_z b (pos 0)) ≡ false → SFits w64 (to_z w64 (of_z w64 (quot_z a b)) -ℤ pos 1)
      less z e = subst⁻¹ (λ (v : ℤ). SFits w64 (v -ℤ pos 1)) (to_z-of_z w64 (quot_z a b) small) (one_less z e).fits

  pub ways : Ways a b (to_z w64 (of_z w64 a)) (to_z w64 (of_z w64 b))
  ways = subst⁻¹ (λ (x : ℤ). Ways a b x (to_z w64 (of_z w64 b))) (to_z-of_z w64 a fa) (subst⁻¹ (Ways a b a) (to_z-of_z w64 b fb) plain)

  pub divisor_above : 0 < of_z w64 b
  divisor_above = omega arith
