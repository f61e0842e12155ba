-- A line in a lent buffer: made of pieces, one after the other, and then finished.
use Rattle.std.specs.Prelude.{ℕ, ◌+◌, ◌-◌, min, max, Bool, true, false, List, ◌∷◌, ◌++◌, ltb, length, Option, Some, None}
use Rattle.wire.specs.Bytes.{pick}
use Rattle.values.specs.Decimal.{decimal}
use Rattle.wire.specs.Runs.{over, zeros}
use Rattle.catalog.specs.Making.{Stored, stored, cleared_from}

-- how long a line is with a piece more: once it is past the buffer's end it grows no further
unfoldable pub length_with : (size at room : ℕ) → ℕ
length_with size at room = max at (min (at + size) (room + 1))

-- a piece at the end of a line that is `at` bytes long, or as much of it as there is room for
unfoldable pub appended : List ℕ → (at : ℕ) → List ℕ → Stored ℕ
appended text at line = stored (length_with (length text) at (length line)) (over line at text)

-- a line of `at` bytes, finished: zeros after it, or zeros alone if it is past the buffer's end
unfoldable pub finished : (at : ℕ) → List ℕ → Stored (Option ℕ)
finished at line = pick (ltb (length line) at) (stored None (cleared_from 0 line)) (stored (Some at) (cleared_from at line))

-- a whole text in a buffer of `room` bytes: the text and then zeros, or zeros alone if the text is longer
unfoldable pub fitted : List ℕ → (room : ℕ) → Stored (Option ℕ)
fitted text room = pick (ltb room (length text)) (stored None (zeros room)) (stored (Some (length text)) (text ++ zeros (room - length text)))

-- a label in a list of labels: a comma comes before it unless it is the first
unfoldable pub one_label_text : (first : Bool) → (label : ℕ) → List ℕ
one_label_text true n = decimal n
one_label_text false n = 44 ∷ decimal n
