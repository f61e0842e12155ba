-- The patterns of selectors and of cases: which are tried, in which order, and which one is chosen. Both follow this one rule, the first request of
-- document 02: "a default in a case or selector is tried only after every other pattern, as source document 000 says of Puppet itself. With two
-- defaults the first counts. The patterns tried, and so the label sets, follow the new order."
use Rattle.std.specs.Prelude.{true, false, List, [], ◌∷◌}
use Rattle.labels.specs.declared.Labels.{Labels}
use Rattle.labels.specs.Sets.{no_labels, one_label, ◌∪◌}
use Rattle.values.specs.declared.Value.{Value}
use Rattle.rules.specs.Arithmetic.{same_value}
use Rattle.rules.specs.Tree.{Constant}

-- the patterns in written order, each with what follows if it is chosen
pub data Patterns (A : Type 0) : Type 0 where
  no_pattern : Patterns A
  constant_pattern : Constant → A → Patterns A → Patterns A
  default_pattern : A → Patterns A → Patterns A

-- "Patterns are tried in written order": what follows the first constant that equals x, those behind a default too; `otherwise` if none does
unfoldable pub first_equal : {A : Type 0} → Patterns A → Value → (otherwise : A) → A
first_equal no_pattern x otherwise = otherwise
first_equal (constant_pattern constant follows patterns) x otherwise = elim (same_value x constant.value) [ true ↦ follows | false ↦ first_equal patterns x otherwise ]
first_equal (default_pattern follows patterns) x otherwise = first_equal patterns x otherwise

-- "With two defaults the first counts.": what follows the first default, wherever it stands; `without` if there is none
unfoldable pub first_default : {A : Type 0} → Patterns A → (without : A) → A
first_default no_pattern without = without
first_default (constant_pattern constant follows patterns) without = first_default patterns without
first_default (default_pattern follows patterns) without = follows

-- "a default in a case or selector is tried only after every other pattern": what follows for the value x; `without` if nothing matches
unfoldable pub chosen : {A : Type 0} → Patterns A → Value → (without : A) → A
chosen patterns x without = first_equal patterns x (first_default patterns without)

-- "The patterns tried .. follow the new order.": the constants up to the one that equals x, or all of them; a default is no constant
unfoldable pub tried : {A : Type 0} → Patterns A → Value → List Constant
tried no_pattern x = []
tried (constant_pattern constant follows patterns) x = constant ∷ elim (same_value x constant.value) [ true ↦ [] | false ↦ tried patterns x ]
tried (default_pattern follows patterns) x = tried patterns x

-- ".. and so the label sets": those of the patterns tried
unfoldable pub labels_of : List Constant → Labels
labels_of [] = no_labels
labels_of (constant ∷ constants) = one_label constant.label ∪ labels_of constants

unfoldable pub tried_labels : {A : Type 0} → Patterns A → Value → Labels
tried_labels patterns x = labels_of (tried patterns x)
