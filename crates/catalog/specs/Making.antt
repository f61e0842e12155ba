-- An entry in the making, in the rest of the output from the fill point on: what each call answers, and all bytes lent to it.
use Rattle.std.specs.Prelude.{ℕ, ◌+◌, ◌-◌, ◌≤◌, ◌≡◌, List, ◌++◌, ltb, length, take, drop, Option, Some, None}
use Rattle.labels.specs.declared.Labels.{Labels}
use Rattle.values.specs.declared.Labelled.{Labelled}
use Rattle.wire.specs.Bytes.{pick}
use Rattle.wire.specs.Runs.{over, zeros}
use Rattle.rules.specs.State.{Attribute, Entry}
use Rattle.rules.specs.Catalog.{attribute_bytes, attributes_bytes, entry_bytes, no_parts}
use Rattle.catalog.specs.Layout.{entry_attributes}

-- an answer, with the bytes lent as they are after the call
pub data Stored (A : Type 0) : Type 0 where
  stored : A → List ℕ → Stored A

abbrev pub attribute : (name : ℕ) → Labelled → Attribute
attribute n x = record { name = n; content = x }

-- as its bytes show it
abbrev pub entry : (type title : ℕ) → Labels → List Attribute → Entry
entry t m k ats = record { type = t; title = m; labels = k; attributes = ats; parts = λ n. no_parts }

-- one more attribute after `size` bytes: it is stored if it fits wholly, and the new size is told either way
unfoldable pub add_attribute : (rest : List ℕ) → (size : ℕ) → Attribute → Stored ℕ
add_attribute rest size a =
    stored (size + length (attribute_bytes a)) (pick (ltb (length rest) (size + length (attribute_bytes a))) rest (over rest size (attribute_bytes a)))

-- an entry with the attributes ats so far takes `size` bytes, of which the first are kept for what stands before them; if they fit the rest, the attributes stand there
pub record Holding (rest : List ℕ) (size : ℕ) (ats : List Attribute) : Type 0 where
  pub grown : size ≡ entry_attributes + length (attributes_bytes ats)
  pub bytes : size ≤ length rest → take (size - entry_attributes) (drop entry_attributes rest) ≡ attributes_bytes ats

-- an entry at the start of the rest, if the rest and the room are long enough for it; else the rest is as it was
unfoldable pub put_entry : (rest : List ℕ) → (room : ℕ) → Entry → Stored (Option ℕ)
put_entry rest room e =
    pick (ltb (length rest) (length (entry_bytes e))) (stored None rest)
    (pick (ltb room (length (entry_bytes e))) (stored None rest)
    (stored (Some (length (entry_bytes e))) (entry_bytes e ++ drop (length (entry_bytes e)) rest)))

-- zeros from p on
unfoldable pub cleared_from : ℕ → List ℕ → List ℕ
cleared_from p m = take p m ++ zeros (length m - p)
