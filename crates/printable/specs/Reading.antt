-- The fields of a manifest that the notation can spell, by their places in reading order.
use Rattle.std.specs.Prelude.{ℕ, ◌+◌, Bool, ◌&&◌, List, [], ◌∷◌, drop, length}
use Rattle.rules.specs.Bytes.{pick, byte}
use Rattle.rules.specs.Format.{is_constant}
use Rattle.rules.specs.Check.{places_in}
use Rattle.rules.specs.Types.{Types}
use Rattle.notation.specs.Printer.{Gone, stops, past, label_right, names_spellable, type_right}

-- the label of the last constant, where that of the one before the field at p is l
unfoldable pub label_behind : (manifest : List ℕ) → (l p : ℕ) → ℕ
label_behind m l p = pick (is_constant (byte m p)) (byte m (p + 3)) l

module _ (types : Types) (m : List ℕ) (strings : List (List ℕ)) where
  -- the field at p can be printed behind a constant with the label l
  unfoldable pub prints_at : (l p : ℕ) → Bool
  prints_at l p = label_right strings l (byte m p) (drop (p + 3) m) && (names_spellable strings (byte m p) (drop (p + 3) m) && type_right types strings (byte m p) (drop (p + 3) m))

  -- the first field that cannot be printed, or the label of the last constant
  unfoldable pub gone_over : List ℕ → (l : ℕ) → Gone
  gone_over [] l = past l
  gone_over (p ∷ ps) l = pick (prints_at l p) (gone_over ps (label_behind m l p)) (stops p)

  -- the fields from p on
  unfoldable pub gone_from : (p l : ℕ) → Gone
  gone_from p l = gone_over (places_in m p (length m)) l
