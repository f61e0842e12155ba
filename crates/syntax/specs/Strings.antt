-- The strings of a manifest by their places, and the table of these places in which a string is looked up by its number.
use Rattle.std.specs.Prelude.{ℕ, ◌*◌, ◌<◌, ◌≡◌, Bool, List, [], ◌∷◌, ◌++◌, length, get_or, Option as CodeOption, Some, None}
use Rattle.std.proofs.Math.Option.{Option, none, some}
use Rattle.wire.specs.Numbers.{high_bytes}
use Rattle.wire.specs.Runs.{over}
use Rattle.rules.specs.Bytes.{two}
use Rattle.rules.specs.Check.{text, string_places}
use Rattle.rules.specs.Evaluate.{any}
use Rattle.rules.specs.Types.{Types, built_in_types}
use Rattle.rules.specs.Compile.{same_bytes}

-- the bodies of the fields at the places given
unfoldable pub texts_at : List ℕ → List ℕ → List (List ℕ)
texts_at m [] = []
texts_at m (p ∷ ps) = text m p ∷ texts_at m ps

-- the strings, by their numbers
unfoldable pub string_texts : List ℕ → List (List ℕ)
string_texts m = texts_at m (string_places m)

-- a type that is built in, by its name
unfoldable pub is_built_in_text : Types → List ℕ → Bool
is_built_in_text types x = any (same_bytes x) (built_in_types types)

-- places one after the other, two bytes each
unfoldable pub place_bytes : List ℕ → List ℕ
place_bytes [] = []
place_bytes (p ∷ ps) = high_bytes 2 p ++ place_bytes ps

-- the table that holds the places of the strings from its start on; what stands after them stays
unfoldable pub indexed : (m table : List ℕ) → List ℕ
indexed m table = over table 0 (place_bytes (string_places m))

-- so many strings, and the table has the place of each
pub record Indexed (m table : List ℕ) (strings : ℕ) : Type 0 where
  pub count : strings ≡ length (string_places m)
  pub place : (n : ℕ) → n < strings → two table (2 * n) ≡ get_or (string_places m) n 0

unfoldable pub found_of : Option ℕ → CodeOption ℕ
found_of none = None
found_of (some n) = Some n
