-- The edit rule applied to document 01's schedule with peak false and with peak true: `screens` is 2 with labels 4 and 5 in both, by the rule;
-- and `price`, whose labels hold the differing constant's, does move. Then it is applied to a class that is defined behind its use.
use Prim.Native.Nat.{ℕ, zero, suc, ◌<◌}
use mathlib.Core.Path.{◌≡◌, refl}
use mathlib.Core.Bool.{Bool, true, false, ◌&&◌, ◌||◌}
use mathlib.Core.List.Memᴰ
use mathlib.Core.List.{List, [], ◌∷◌}
use mathlib.Core.Option.{Option, none, some}
use lib.Dec.{eqb, ltb}
use lib.IntN.{pos}
use borrow.Author.Tests.{ltb-true}
use Rattle.labels.specs.Sets.{has}
use Rattle.values.specs.declared.Value.TheVariants.{Integer}
use Rattle.values.specs.declared.Labelled.{Labelled}
use Rattle.rules.specs.Bytes.{byte}
use Rattle.rules.specs.Outcome.{done}
use Rattle.rules.specs.State.{Attribute, Entry}
use Rattle.rules.specs.Evaluate.{first_with, is_attribute}
use Rattle.rules.specs.Catalog.{no_parts, read_catalog}
use Rattle.rules.specs.Types.{the_eight}
use Rattle.rules.specs.Compile.{Compiled, compiled}
use Rattle.rules.specs.EditRule.{one_tree, differing, KeptAttribute, IsBytes}
use Rattle.rules.proofs.Lists.{both_left, both_right, eqb_true}
use Rattle.rules.proofs.Computing.{open_compiled, open_catalog, open_one_tree, open_differing, open_has}
use Rattle.rules.proofs.EditRule.{edit_rule}
use Rattle.rules.proofs.Rows.{Row, Expected, accepted, refused, row1, row2, row37, row38}

-- a list whose numbers pass the test is a byte string
below256 : List ℕ → Bool
below256 [] = true
below256 (b ∷ m) = ltb b 256 && below256 m

byte_string : (m : List ℕ) → below256 m ≡ true → IsBytes m
unfolding below256
byte_string [] h = record { below = λ i. ltb-true 0 256 refl }
byte_string (b ∷ m) h = record { below = λ i. at (byte_string m (both_right (ltb b 256) (below256 m) h)) i }
  where
    at : IsBytes m → (i : ℕ) → byte (b ∷ m) i < 256
    at r zero = ltb-true b 256 (both_left (ltb b 256) (below256 m) h)
    at r (suc i) = r.below i

catalog_of : Expected → List ℕ
catalog_of (accepted steps bytes) = bytes
catalog_of (refused number place) = []

steps_of : Expected → ℕ
steps_of (accepted steps bytes) = steps
steps_of (refused number place) = 0

result : Row → Compiled
result r = record { catalog = catalog_of r.expected; steps = steps_of r.expected }

first_accepted : compiled the_eight row1.manifest row1.device row1.limit row1.output row1.memory ≡ done (result row1)
unfolding open_compiled result catalog_of steps_of row1
first_accepted = refl

second_accepted : compiled the_eight row2.manifest row1.device row2.limit row2.output row2.memory ≡ done (result row2)
unfolding open_compiled result catalog_of steps_of row1 row2
second_accepted = refl

one_tree_both : one_tree row1.manifest row2.manifest ≡ true
unfolding open_one_tree row1 row2
one_tree_both = refl

-- the attribute `screens` (name 5) of kiosk "front": 2, with labels 4 and 5
screens : Attribute
screens = record { name = 5; content = record { value = Integer (pos 2); labels = record { w0 = 48; w1 = 0; w2 = 0; w3 = 0 } } }

-- the attribute `price` (name 4): 40, with labels 1, 2 and 4
price : Attribute
price = record { name = 4; content = record { value = Integer (pos 40); labels = record { w0 = 22; w1 = 0; w2 = 0; w3 = 0 } } }

first_bytes : IsBytes row1.manifest
unfolding below256 row1
first_bytes = byte_string row1.manifest refl

second_bytes : IsBytes row2.manifest
unfolding below256 row2
second_bytes = byte_string row2.manifest refl

-- only the constant with label 2 differs
only_peak : (l : ℕ) → differing row1.manifest row2.manifest l ≡ true → has screens.content.labels l ≡ false
unfolding open_differing open_has row1 row2 screens
only_peak l h = rw (eqb_true l 2 (alone (eqb l 2) h)) refl
  where
    alone : (b : Bool) → (((b || false) || false) || false) ≡ true → b ≡ true
    alone true e = refl
    alone false e = e

front : Entry
front = record { type = 2; title = 1; labels = record { w0 = 16; w1 = 0; w2 = 0; w3 = 0 }; attributes = price ∷ screens ∷ []; parts = λ n. no_parts }

-- by the rule alone: `screens` is in the second catalog, once, with its value and its labels
screens_kept : KeptAttribute front screens (read_catalog (result row2).catalog)
unfolding result catalog_of open_catalog row1 front price screens
screens_kept =
    (edit_rule the_eight row1.manifest row2.manifest row1.device first_bytes second_bytes one_tree_both row1.limit row2.limit row1.output row2.output row1.memory row2.memory (result row1) (result row2) first_accepted second_accepted
    ).attributes front screens (Memᴰ.head refl) (Memᴰ.tail (Memᴰ.head refl)) (record { lacks = only_peak })

-- and the price, whose labels hold 2, is another there
price_in : List Entry → Option Labelled
price_in [] = none
price_in (e ∷ es) = elim (first_with (is_attribute 4) e.attributes) [ none ↦ none | some a ↦ some a.content ]

price_first : price_in (read_catalog (result row1).catalog) ≡ some (record { value = Integer (pos 40); labels = record { w0 = 22; w1 = 0; w2 = 0; w3 = 0 } })
unfolding price_in result catalog_of open_catalog row1
price_first = refl

price_second : price_in (read_catalog (result row2).catalog) ≡ some (record { value = Integer (pos 55); labels = record { w0 = 28; w1 = 0; w2 = 0; w3 = 0 } })
unfolding price_in result catalog_of open_catalog row2
price_second = refl

-- ---- A class defined behind its use, with price 40 and with price 55: rows 37 and 38

early_accepted : compiled the_eight row37.manifest row37.device row37.limit row37.output row37.memory ≡ done (result row37)
unfolding open_compiled result catalog_of steps_of row37
early_accepted = refl

early_edited : compiled the_eight row38.manifest row37.device row38.limit row38.output row38.memory ≡ done (result row38)
unfolding open_compiled result catalog_of steps_of row37 row38
early_edited = refl

early_tree : one_tree row37.manifest row38.manifest ≡ true
unfolding open_one_tree row37 row38
early_tree = refl

early_bytes : IsBytes row37.manifest
unfolding below256 row37
early_bytes = byte_string row37.manifest refl

edited_bytes : IsBytes row38.manifest
unfolding below256 row38
edited_bytes = byte_string row38.manifest refl

-- the attributes `price` (name 3), 40 with labels 1 and 2, and `screens` (name 4), 2 with labels 1 and 3
early_price : Attribute
early_price = record { name = 3; content = record { value = Integer (pos 40); labels = record { w0 = 6; w1 = 0; w2 = 0; w3 = 0 } } }

early_screens : Attribute
early_screens = record { name = 4; content = record { value = Integer (pos 2); labels = record { w0 = 10; w1 = 0; w2 = 0; w3 = 0 } } }

early_front : Entry
early_front = record { type = 2; title = 1; labels = record { w0 = 2; w1 = 0; w2 = 0; w3 = 0 }; attributes = early_price ∷ early_screens ∷ []; parts = λ n. no_parts }

-- only the constant with label 2 differs
only_price : (l : ℕ) → differing row37.manifest row38.manifest l ≡ true → has early_screens.content.labels l ≡ false
unfolding open_differing open_has row37 row38 early_screens
only_price l h = rw (eqb_true l 2 (alone (eqb l 2) h)) refl
  where
    alone : (b : Bool) → ((((((b || false) || false) || false) || false) || false) || false) ≡ true → b ≡ true
    alone true e = refl
    alone false e = e

-- by the rule alone
early_screens_kept : KeptAttribute early_front early_screens (read_catalog (result row38).catalog)
unfolding result catalog_of open_catalog row37 early_front early_price early_screens
early_screens_kept =
    (edit_rule the_eight row37.manifest row38.manifest row37.device early_bytes edited_bytes early_tree row37.limit row38.limit row37.output row38.output row37.memory row38.memory (result row37) (result row38) early_accepted early_edited
    ).attributes early_front early_screens (Memᴰ.head refl) (Memᴰ.tail (Memᴰ.head refl)) (record { lacks = only_price })
