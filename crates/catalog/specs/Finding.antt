-- The catalog so far in the output, and what is found in it.
use Rattle.std.specs.Prelude.{ℕ, ◌+◌, ◌≤◌, ◌<◌, ◌≡◌, Bool, List, [], ◌∷◌, ◌++◌, eqb, length, take, drop, Option as CodeOption, Some, None}
use Rattle.std.proofs.Math.Option.{Option, none, some}
use Rattle.labels.specs.Bytes.{set_at}
use Rattle.values.specs.declared.Value.{Value}
use Rattle.values.specs.declared.Value.TheVariants.{Integer, String, Boolean}
use Rattle.values.specs.declared.Labelled.{Labelled}
use Rattle.wire.specs.Bytes.{pick, byte, two}
use Rattle.wire.specs.Numbers.{number, signed64}
use Rattle.wire.specs.Runs.{bytes_at}
use Rattle.rules.specs.State.{Attribute, Entry}
use Rattle.rules.specs.Evaluate.{first_with, is_entry, is_attribute}
use Rattle.catalog.specs.Layout.{header_size, entry_attributes, attribute_labels, attribute_value}
use Rattle.rules.specs.Catalog.{attribute_bytes, entry_bytes, catalog_bytes}
use Rattle.rules.specs.Ranges.{Each, FitsEntry}

-- ---- What stands in the output

-- the catalog so far: entries in declaration order, whose numbers fit their fields
pub record Written (out : List ℕ) (fill : ℕ) (es : List Entry) : Type 0 where
  pub bytes : take fill out ≡ catalog_bytes es
  pub fits : Each FitsEntry es

-- the bytes bs stand at p, and others after them
pub record Stands (m : List ℕ) (p : ℕ) (bs : List ℕ) : Type 0 where
  pub after : List ℕ
  pub bytes : drop p m ≡ bs ++ after

-- an entry stands at p
pub record EntryAt (m : List ℕ) (p : ℕ) (e : Entry) : Type 0 where
  pub stands : Stands m p (entry_bytes e)
  pub short : length (entry_bytes e) ≤ 65535
  pub fits : FitsEntry e

-- things of one kind, written one after the other from a place up to an end
pub record Listed {A : Type 0} (Fits : A → Type 0) (all_of : List A → List ℕ) (m : List ℕ) (from end : ℕ) (xs : List A) : Type 0 where
  pub stands : Stands m from (all_of xs)
  pub ends : from + length (all_of xs) ≡ end
  pub short : length (all_of xs) ≤ 65535
  pub fits : Each Fits xs

-- ---- Places

-- the place of the first that passes a test, among things written one after the other from p on
unfoldable pub place_with : {A : Type 0} → (A → List ℕ) → (A → Bool) → List A → ℕ → CodeOption ℕ
place_with bytes_of test [] p = None
place_with bytes_of test (x ∷ xs) p = pick (test x) (Some p) (place_with bytes_of test xs (p + length (bytes_of x)))

unfoldable pub entry_place : (type title : ℕ) → List Entry → CodeOption ℕ
entry_place t m es = place_with entry_bytes (is_entry t m) es 0

-- in the entry at p
unfoldable pub attribute_place : (name : ℕ) → Entry → ℕ → CodeOption ℕ
attribute_place n e p = place_with attribute_bytes (is_attribute n) e.attributes (p + entry_attributes)

-- a place found is below an end
unfoldable pub Below : ℕ → CodeOption ℕ → Type 0
Below e (Some p) = p < e
Below e None = Unit {0}

-- ---- Contents

-- the value at p; the content of the attribute at p
unfoldable pub value_at : List ℕ → ℕ → Value
value_at m p =
    pick (eqb (byte m p) 0x42) (Integer (signed64 (number (bytes_at m (p + header_size) 8) 0)))
    (pick (eqb (byte m p) 0x43) (String (two m (p + header_size))) (Boolean (eqb (byte m (p + header_size)) 1)))

unfoldable pub content_at : List ℕ → ℕ → Labelled
content_at m p = record { value = value_at m (p + attribute_value); labels = set_at m (p + attribute_labels) }

-- what the first attribute of this name holds, in the first entry of this type and title
unfoldable pub content_of : Option Attribute → Option Labelled
content_of none = none
content_of (some a) = some a.content

unfoldable pub content_in : (name : ℕ) → Option Entry → Option Labelled
content_in n none = none
content_in n (some e) = content_of (first_with (is_attribute n) e.attributes)

unfoldable pub look_up : (type title name : ℕ) → List Entry → Option Labelled
look_up t m n es = content_in n (first_with (is_entry t m) es)

unfoldable pub found_in : Option Labelled → CodeOption Labelled
found_in none = None
found_in (some x) = Some x
