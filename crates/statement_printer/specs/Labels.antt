-- The line on which a form begins, by the places of the fields in it.
use Rattle.std.specs.Prelude.{ℕ, ◌+◌, List, [], ◌∷◌, eqb}
use Rattle.rules.specs.Bytes.{pick, byte}
use Rattle.rules.specs.Format.{is_constant}
use Rattle.rules.specs.Check.{places_in}

-- the label of the first constant at these places, or else v
unfoldable pub label_among : (manifest : List ℕ) → (places : List ℕ) → (v : ℕ) → ℕ
label_among m [] v = v
label_among m (q ∷ qs) v = pick (is_constant (byte m q)) (byte m (q + 3)) (label_among m qs v)

-- the label of the first constant from p to e in reading order, or else v
unfoldable pub first_label : (manifest : List ℕ) → (p e v : ℕ) → ℕ
first_label m p e v = label_among m (places_in m p e) v

-- the keyword of a boolean
unfoldable pub boolean_kind : ℕ → ℕ
boolean_kind b = pick (eqb b 1) 26 27
