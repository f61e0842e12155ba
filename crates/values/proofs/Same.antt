-- Equality of values, from the constructors that a `match` finds. Assumes nothing.
use mathlib.Core.Path.{◌≡◌, refl, sym, ap, ◌∙◌}
use mathlib.Core.Bool.{Bool, true, false}
use Prim.Native.Nat.{ℕ, suc, ◌-◌, ◌^◌}
use native.Mathlib.Omega.{arith}
use borrow.Author.Tests.{eq-eqb, ne_eqb, eqb-true, eqb-false}
use lib.Dec.{eqb}
use lib.IntN.{ℤ, pos, negsuc}
use mir.Syntax.{w64}
use mir.Val.{SFits, of_z}
use denote.Enum.Declared.{tag_of}
use Rattle.values.specs.declared.Value.{Value}
use Rattle.values.specs.declared.Value.TheVariants.{Integer, String, Boolean}
use Rattle.values.specs.Integers.{same_integer, same_value}
use Rattle.values.specs.contracts.Value.{the_type}

pub at_both : {v w x y : Value} → v ≡ x → w ≡ y → same_value x y ≡ same_value v w
at_both {v} {w} {x} {y} p q = sym (ap (λ (z : Value). same_value z w) p ∙ ap (same_value x) q)

pub same_bits_test : (a b : ℤ) → SFits w64 a → SFits w64 b → eqb (of_z w64 a) (of_z w64 b) ≡ same_integer a b
unfolding same_integer
same_bits_test (pos a) (pos b) f g = refl
same_bits_test (pos a) (negsuc b) f g = ne_eqb a (2 ^ 64 - suc b) (λ e. omega (arith, f.sfits, g.sfits))
same_bits_test (negsuc a) (pos b) f g = ne_eqb (2 ^ 64 - suc a) b (λ e. omega (arith, f.sfits, g.sfits))
same_bits_test (negsuc a) (negsuc b) f g = go (eqb a b) refl
  where
    go : (t : Bool) → eqb a b ≡ t → eqb (2 ^ 64 - suc a) (2 ^ 64 - suc b) ≡ t
    go true e = eq-eqb (2 ^ 64 - suc a) (2 ^ 64 - suc b) (ap (λ (n : ℕ). 2 ^ 64 - suc n) (eqb-true a b e))
    go false e = ne_eqb (2 ^ 64 - suc a) (2 ^ 64 - suc b) (λ h. eqb-false a b e (omega (arith, f.sfits, g.sfits)))

-- values of unlike kinds
pub unlike : {v x : Value} (w : Value) → v ≡ x → (tag_of the_type x ≡ tag_of the_type w → ⊥) → false ≡ same_value v w
unfolding same_value
unlike {v} {x} w p h = plain x w h ∙ ap (λ (z : Value). same_value z w) (sym p)
  where
    plain : (x w : Value) → (tag_of the_type x ≡ tag_of the_type w → ⊥) → false ≡ same_value x w
    plain (Integer a) (Integer b) h = absurd (h refl)
    plain (Integer a) (String b) h = refl
    plain (Integer a) (Boolean b) h = refl
    plain (String a) (Integer b) h = refl
    plain (String a) (String b) h = absurd (h refl)
    plain (String a) (Boolean b) h = refl
    plain (Boolean a) (Integer b) h = refl
    plain (Boolean a) (String b) h = refl
    plain (Boolean a) (Boolean b) h = absurd (h refl)
