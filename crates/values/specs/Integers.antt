-- Signed 64-bit integers, and equality of values: "Integers are signed 64-bit; division rounds toward minus infinity."
use Rattle.std.specs.Prelude.{zero, suc, ◌+◌, ◌/◌, Bool, true, false, eqb, ltb, ℤ, pos, negsuc, neg_ℤ}
use Rattle.std.specs.Bool.{beq}
use Rattle.values.specs.declared.Value.{Value}
use Rattle.values.specs.declared.Value.TheVariants.{Integer, String, Boolean}

-- from −2⁶³ to 2⁶³ − 1
unfoldable pub fits64 : ℤ → Bool
fits64 (pos n) = ltb n 9223372036854775808
fits64 (negsuc n) = ltb n 9223372036854775808

unfoldable pub is_zero : ℤ → Bool
is_zero (pos zero) = true
is_zero (pos (suc n)) = false
is_zero (negsuc n) = false

-- the largest integer at most a / b, for b not zero (negsuc n is −(n + 1))
unfoldable pub floor_divide : ℤ → ℤ → ℤ
floor_divide (pos a) (pos b) = pos (a / b)
floor_divide (pos a) (negsuc b) = neg_ℤ (pos ((a + b) / suc b))
floor_divide (negsuc a) (pos b) = negsuc (a / b)
floor_divide (negsuc a) (negsuc b) = pos (suc a / suc b)

-- ---- Equality: "= takes any two values, unequal if of unlike kinds"

unfoldable pub same_integer : ℤ → ℤ → Bool
same_integer (pos a) (pos b) = eqb a b
same_integer (pos a) (negsuc b) = false
same_integer (negsuc a) (pos b) = false
same_integer (negsuc a) (negsuc b) = eqb a b

unfoldable pub same_value : Value → Value → Bool
same_value (Integer a) (Integer b) = same_integer a b
same_value (Integer a) (String b) = false
same_value (Integer a) (Boolean b) = false
same_value (String a) (Integer b) = false
same_value (String a) (String b) = eqb a b
same_value (String a) (Boolean b) = false
same_value (Boolean a) (Integer b) = false
same_value (Boolean a) (String b) = false
same_value (Boolean a) (Boolean b) = beq a b
