-- The printed schedule: from standard input (the device name, a line feed, then the manifest) to the text.
use Rattle.std.specs.Prelude.{ℕ, zero, suc, Bool, true, false, List, [], ◌∷◌, ◌++◌, eqb}
use Rattle.labels.specs.declared.Labels.{Labels}
use Rattle.labels.specs.Sets.{has}
use Rattle.labels.specs.Search.{count_of}
use Rattle.values.specs.declared.Value.{Value}
use Rattle.values.specs.declared.Value.TheVariants.{Integer, String, Boolean}
use Rattle.values.specs.Numbers.{number_of}
unfoldable pub use Rattle.values.specs.Decimal.{digits, decimal, signed_decimal}
use Rattle.rules.specs.Read.{manifest_of}
use Rattle.rules.specs.Outcome.{Outcome, refused, done}
use Rattle.rules.specs.State.{Attribute, Entry}
use Rattle.rules.specs.Types.{the_eight}
use Rattle.rules.specs.Compile.{string_at, compiled, Compiled}
use Rattle.rules.specs.Catalog.{read_catalog}

-- ---- Numbers, values and labels as text

-- "true/false"
unfoldable pub boolean_text : Bool → List ℕ
boolean_text true = 116 ∷ 114 ∷ 117 ∷ 101 ∷ []  -- true
boolean_text false = 102 ∷ 97 ∷ 108 ∷ 115 ∷ 101 ∷ []  -- false

-- "value (decimal, bytes, or true/false)"
unfoldable pub value_text : List (List ℕ) → Value → List ℕ
value_text ss (Integer z) = signed_decimal z
value_text ss (String n) = string_at ss n
value_text ss (Boolean b) = boolean_text b

-- the labels of a set from n on, of the k that are left
unfoldable pub labels_up : Labels → ℕ → ℕ → List ℕ
labels_up s zero n = []
labels_up s (suc k) n = elim (has s n) [ true ↦ n ∷ labels_up s k (suc n) | false ↦ labels_up s k (suc n) ]

unfoldable pub with_commas : List ℕ → List ℕ
with_commas [] = []
with_commas (n ∷ []) = decimal n
with_commas (n ∷ m ∷ ns) = decimal n ++ (44 ∷ with_commas (m ∷ ns))

-- "how many labels, the labels rising", each after a space, and the line's end
unfoldable pub labels_text : Labels → List ℕ
labels_text s = 32 ∷ decimal (count_of s) ++ (32 ∷ with_commas (labels_up s 256 0) ++ (10 ∷ []))

-- ---- Lines: "type, title, attribute, value .., how many labels, the labels rising"

unfoldable pub line_start : List (List ℕ) → Entry → List ℕ
line_start ss e = string_at ss e.type ++ (32 ∷ string_at ss e.title ++ (32 ∷ []))

unfoldable pub attribute_line : List (List ℕ) → Entry → Attribute → List ℕ
attribute_line ss e a = line_start ss e ++ (string_at ss a.name ++ (32 ∷ value_text ss a.content.value ++ labels_text a.content.labels))

unfoldable pub attribute_lines : List (List ℕ) → Entry → List Attribute → List ℕ
attribute_lines ss e [] = []
attribute_lines ss e (a ∷ ats) = attribute_line ss e a ++ attribute_lines ss e ats

-- "A resource without attributes has "-" for attribute and value."
unfoldable pub entry_lines_by : List (List ℕ) → Entry → List Attribute → List ℕ
entry_lines_by ss e [] = line_start ss e ++ (45 ∷ 32 ∷ 45 ∷ labels_text e.labels)  -- "- -"
entry_lines_by ss e (a ∷ ats) = attribute_lines ss e (a ∷ ats)

unfoldable pub entry_lines : List (List ℕ) → List Entry → List ℕ
entry_lines ss [] = []
entry_lines ss (e ∷ es) = entry_lines_by ss e e.attributes ++ entry_lines ss es

-- "The last line is "steps" and their number."
unfoldable pub steps_line : ℕ → List ℕ
steps_line n = 115 ∷ 116 ∷ 101 ∷ 112 ∷ 115 ∷ 32 ∷ decimal n ++ (10 ∷ [])  -- "steps n"

-- "A refusal prints only "refused", number, "at", place."
unfoldable pub refusal_line : (number place : ℕ) → List ℕ
refusal_line n p =
    114 ∷ 101 ∷ 102 ∷ 117 ∷ 115 ∷ 101 ∷ 100 ∷ 32 ∷ decimal n ++ (32 ∷ 97 ∷ 116 ∷ 32 ∷ decimal p ++ (10 ∷ []))  -- "refused n at p"

unfoldable pub text_of : List (List ℕ) → Outcome Compiled → List ℕ
text_of ss (refused r p) = refusal_line (number_of r) p
text_of ss (done c) = entry_lines ss (read_catalog c.catalog) ++ steps_line c.steps

-- ---- The input: "the device name, a line feed, then the manifest"; "without a line feed the manifest is empty"

unfoldable pub before_feed : List ℕ → List ℕ
before_feed [] = []
before_feed (x ∷ xs) = elim (eqb x 10) [ true ↦ [] | false ↦ x ∷ before_feed xs ]

unfoldable pub after_feed : List ℕ → List ℕ
after_feed [] = []
after_feed (x ∷ xs) = elim (eqb x 10) [ true ↦ xs | false ↦ after_feed xs ]

-- "with limit 65,535", and 65,535 bytes of output
unfoldable pub schedule : List ℕ → List ℕ
schedule input = text_of (manifest_of (after_feed input)).strings (compiled the_eight (after_feed input) (before_feed input) 65535 65535 65536)
