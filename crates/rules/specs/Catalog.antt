-- The catalog's bytes, and their reader.
use Rattle.std.specs.Prelude.{ℕ, zero, suc, ◌+◌, Bool, true, false, List, [], ◌∷◌, ◌++◌, eqb, length, take, drop}
use Rattle.labels.specs.Bytes.{label_bytes, labels_from}
use Rattle.values.specs.declared.Value.{Value}
use Rattle.values.specs.declared.Value.TheVariants.{Integer, String, Boolean}
unfoldable pub use Rattle.wire.specs.Numbers.{high_bytes, word64}
use Rattle.rules.specs.Bytes.{byte, two}
use Rattle.rules.specs.Read.{number, signed64}
use Rattle.labels.specs.Sets.{no_labels}
use Rattle.rules.specs.State.{Attribute, SetParts, Entry}

-- ---- Written

-- "A field is a one-byte tag .., a two-byte length and a body of that length."
unfoldable pub field_bytes : ℕ → List ℕ → List ℕ
field_bytes t b = t ∷ high_bytes 2 (length b) ++ b

unfoldable pub boolean_byte : Bool → ℕ
boolean_byte true = 1
boolean_byte false = 0

-- "42 integer (8 bytes), 43 string (name) or 44 boolean"
unfoldable pub value_bytes : Value → List ℕ
value_bytes (Integer z) = field_bytes 0x42 (high_bytes 8 (word64 z))
value_bytes (String n) = field_bytes 0x43 (high_bytes 2 n)
value_bytes (Boolean b) = field_bytes 0x44 (boolean_byte b ∷ [])

-- "Attribute 41: name, 32 bytes, then" the value
unfoldable pub attribute_bytes : Attribute → List ℕ
attribute_bytes a = field_bytes 0x41 (high_bytes 2 a.name ++ (label_bytes a.content.labels ++ value_bytes a.content.value))

unfoldable pub attributes_bytes : List Attribute → List ℕ
attributes_bytes [] = []
attributes_bytes (a ∷ ats) = attribute_bytes a ++ attributes_bytes ats

-- "40 (type name, title name, 32 bytes of labels, attributes)"
unfoldable pub entry_bytes : Entry → List ℕ
entry_bytes e = field_bytes 0x40 (high_bytes 2 e.type ++ (high_bytes 2 e.title ++ (label_bytes e.labels ++ attributes_bytes e.attributes)))

unfoldable pub catalog_bytes : List Entry → List ℕ
catalog_bytes [] = []
catalog_bytes (e ∷ es) = entry_bytes e ++ catalog_bytes es

-- ---- Read

-- the bodies of the fields in b, one after the other; k is at least how many they are
unfoldable pub bodies_up : ℕ → List ℕ → List (List ℕ)
bodies_up zero b = []
bodies_up (suc k) [] = []
bodies_up (suc k) (t ∷ b) = take (two b 0) (drop 2 b) ∷ bodies_up k (drop (2 + two b 0) b)

unfoldable pub bodies : List ℕ → List (List ℕ)
bodies b = bodies_up (length b) b

unfoldable pub value_of : List ℕ → Value
value_of b = elim (eqb (byte b 0) 0x42) [
  | true ↦ Integer (signed64 (number (take 8 (drop 3 b)) 0))
  | false ↦ elim (eqb (byte b 0) 0x43) [ true ↦ String (two b 3) | false ↦ Boolean (eqb (byte b 3) 1) ]
]

unfoldable pub attribute_of : List ℕ → Attribute
attribute_of b = record { name = two b 0; content = record { value = value_of (drop 34 b); labels = labels_from (drop 2 b) } }

unfoldable pub attributes_of : List (List ℕ) → List Attribute
attributes_of [] = []
attributes_of (b ∷ bs) = attribute_of b ∷ attributes_of bs

-- what the bytes of a catalog show of an entry: all but the parts of its sets
unfoldable pub no_parts : SetParts
no_parts = record { title = no_labels; path = no_labels; trail = no_labels; marks = no_labels; value = no_labels }

unfoldable pub shown : Entry → Entry
shown e = record { type = e.type; title = e.title; labels = e.labels; attributes = e.attributes; parts = λ n. no_parts }

unfoldable pub shown_all : List Entry → List Entry
shown_all [] = []
shown_all (e ∷ es) = shown e ∷ shown_all es

unfoldable pub entry_of : List ℕ → Entry
entry_of b = record { type = two b 0; title = two b 2; labels = labels_from (drop 4 b); attributes = attributes_of (bodies (drop 36 b)); parts = λ n. no_parts }

unfoldable pub entries_of : List (List ℕ) → List Entry
entries_of [] = []
entries_of (b ∷ bs) = entry_of b ∷ entries_of bs

-- the entries of a catalog's bytes
unfoldable pub read_catalog : List ℕ → List Entry
read_catalog b = entries_of (bodies b)
