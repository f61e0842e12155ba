-- The strings of a manifest, looked up by an index of their places.
use Rattle.std.specs.Prelude.{ℕ, zero, suc, ◌*◌, List, [], ◌∷◌}
use Rattle.rules.specs.Bytes.{two}
use Rattle.syntax.specs.Strings.{texts_at}

-- the places that an index has, two bytes each, for the k strings from number n on
unfoldable pub places_from : (index : List ℕ) → (k n : ℕ) → List ℕ
places_from index zero n = []
places_from index (suc k) n = two index (2 * n) ∷ places_from index k (suc n)

-- the strings by their numbers: each is the body of the field at the place that the index has for it, whatever the index holds
unfoldable pub strings_by : (manifest index : List ℕ) → (strings : ℕ) → List (List ℕ)
strings_by m index strings = texts_at m (places_from index strings 0)
