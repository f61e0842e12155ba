-- `same_value`: the derived equality is the definition's.
use mathlib.Core.Path.{◌≡◌, refl, ap, ◌∙◌}
use lib.Dec.{eqb}
use lib.IntN.{ℤ, pos, negsuc}
use Rattle.std.specs.Ordering.{int_eq}
use Rattle.std.proofs.lemmas.Bool.Decides.{same_from_decides, Decides-eqb, Decides-int_eq}
use Rattle.values.specs.declared.Value.{Value}
use Rattle.values.specs.declared.Value.TheVariants.{Integer, String, Boolean}
use Rattle.values.specs.contracts.ValuePartialEq.TheImpl.{eq-value}
use Rattle.values.specs.Integers.{same_integer, same_value}
use Rattle.values.proofs.same_value.Goals as goal

same_int : (a b : ℤ) → int_eq a b ≡ same_integer a b
unfolding same_integer
same_int (pos a) (pos b) =
    let d = Decides-eqb a b in
    same_from_decides (int_eq (pos a) (pos b)) (eqb a b) (Decides-int_eq (pos a) (pos b)) (λ e. ap pos (d.0 e), λ e. (let same : a ≡ b = cc in d.1 same))
same_int (pos a) (negsuc b) = refl
same_int (negsuc a) (pos b) = refl
same_int (negsuc a) (negsuc b) =
    let d = Decides-eqb a b in
    same_from_decides (int_eq (negsuc a) (negsuc b)) (eqb a b) (Decides-int_eq (negsuc a) (negsuc b)) (λ e. ap negsuc (d.0 e), λ e. (let same : a ≡ b = cc in d.1 same))

same : (a b : Value) → eq-value.it a b ≡ same_value a b
unfolding same_value same_integer
same (Integer x) (Integer y) = same_int x y
same (Integer x) (String y) = refl
same (Integer x) (Boolean y) = refl
same (String x) (Integer y) = refl
same (String x) (String y) = refl
same (String x) (Boolean y) = refl
same (Boolean x) (Integer y) = refl
same (Boolean x) (String y) = refl
same (Boolean x) (Boolean y) = refl

pub returns : goal.returns
returns c = c.eq.ensures ∙ same c.args.a c.args.b
