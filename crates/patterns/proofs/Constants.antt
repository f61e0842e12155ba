-- Constants in place, whatever the bytes are: the value by the tag, and whether it is a given one. Assumes nothing.
use Prim.Native.Nat.{ℕ, ◌+◌}
use mathlib.Core.Path.{◌≡◌, refl, sym, ap, ◌∙◌}
use mathlib.Core.Bool.{Bool, true, false}
use mathlib.Core.List.{List}
use borrow.Author.Tests.{ne_eqb}
use lib.Dec.{eqb}
use lib.IntN.{ℤ}
use Rattle.values.specs.declared.Value.{Value}
use Rattle.values.specs.declared.Value.TheVariants.{Integer, String, Boolean}
use Rattle.values.specs.Integers.{same_value}
use Rattle.wire.specs.Bytes.{pick, byte, two}
use Rattle.wire.specs.Numbers.{number, signed64}
use Rattle.wire.specs.Runs.{bytes_at}
use Rattle.rules.specs.Tree.{Constant}
use Rattle.places.specs.At.{value_at, constant_at}
use Rattle.places.proofs.Expressions.{integer_at, string_at_lem}

-- what holds of both holds of the one that a test picks
of_both : (P : Value → Type 0) (b : Bool) {v w : Value} → P v → P w → P (pick b v w)
of_both P true l r = l
of_both P false l r = r

module _ (m : List ℕ) (p : ℕ) {t : ℕ} (read : t ≡ byte m p) where
  pub integer_value : {z : ℤ} → t ≡ 0x10 → z ≡ signed64 (number (bytes_at m (p + 4) 8) 0) → (constant_at m p).value ≡ Integer z
  integer_value h e = ap (λ (c : Constant). c.value) (integer_at m p (sym read ∙ h)) ∙ ap Integer (sym e)

  pub string_value : {n : ℕ} → t ≡ 0x11 → n ≡ two m (p + 4) → (constant_at m p).value ≡ String n
  string_value h e = ap (λ (c : Constant). c.value) (string_at_lem m p (sym read ∙ h)) ∙ ap String (sym e)

  -- every other tag reads as a boolean
  pub boolean_value : {b : ℕ} → (t ≡ 0x10 → ⊥) → (t ≡ 0x11 → ⊥) → b ≡ byte m (p + 4) → (constant_at m p).value ≡ Boolean (eqb b 1)
  unfolding constant_at value_at
  boolean_value i s e = rw (sym read, ne_eqb t 0x10 i, ne_eqb t 0x11 s, e)

  -- a value of another kind than the tag's
  pub no_integer : {x : Value} {z : ℤ} → x ≡ Integer z → (t ≡ 0x10 → ⊥) → false ≡ same_value x (constant_at m p).value
  unfolding same_value constant_at value_at
  no_integer {z = z} is other = rw (is, sym read, ne_eqb t 0x10 other) (of_both (λ v. false ≡ same_value (Integer z) v) (eqb t 0x11) refl refl)

  pub no_string_lem : {x : Value} {n : ℕ} → x ≡ String n → (t ≡ 0x11 → ⊥) → false ≡ same_value x (constant_at m p).value
  unfolding same_value constant_at value_at
  no_string_lem {n = n} is other = rw (is, sym read, ne_eqb t 0x11 other) (of_both (λ v. false ≡ same_value (String n) v) (eqb t 0x10) refl refl)
