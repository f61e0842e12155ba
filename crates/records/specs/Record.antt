-- A labelled value in 48 bytes: payload 8, source 2, key 2, kind 1, spare 3, set 32. Source, key and spare have no meaning yet.
use Rattle.std.specs.Prelude.{ℕ, ◌+◌, ◌%◌, Bool, true, false, List, [], ◌∷◌, ◌++◌, eqb, Option as CodeOption, Some, None}
use Rattle.std.proofs.Math.Option.{Option, none, some}
use Rattle.wire.specs.Bytes.{pick, byte}
use Rattle.wire.specs.Numbers.{number, high_bytes, signed64, word64}
use Rattle.wire.specs.Runs.{bytes_at}
use Rattle.labels.specs.declared.Labels.{Labels}
use Rattle.labels.specs.Bytes.{label_bytes, set_at}
use Rattle.values.specs.declared.Value.{Value}
use Rattle.values.specs.declared.Value.TheVariants.{Integer, String, Boolean}
use Rattle.values.specs.declared.Labelled.{Labelled}

-- ---- Places in the record at p

abbrev pub record_size : ℕ
record_size = 48

abbrev pub kind_at : ℕ → ℕ
kind_at p = p + 12

abbrev pub content_set_at : ℕ → ℕ
content_set_at p = p + 16

abbrev pub labelled : Value → Labels → Labelled
labelled v a = record { value = v; labels = a }

-- ---- A value by its kind, which is not 0, and its payload

unfoldable pub kind_of : Value → ℕ
kind_of (Integer z) = 2
kind_of (String n) = 3
kind_of (Boolean b) = 4

unfoldable pub payload_of : Value → ℕ
payload_of (Integer z) = word64 z
payload_of (String n) = n
payload_of (Boolean b) = elim b [ true ↦ 1 | false ↦ 0 ]

unfoldable pub value_from : (kind payload : ℕ) → Value
value_from t p = pick (eqb t 2) (Integer (signed64 p)) (pick (eqb t 3) (String (p % 65536)) (Boolean (eqb p 1)))

unfoldable pub word_at : List ℕ → ℕ → ℕ
word_at m p = number (bytes_at m p 8) 0

-- ---- Records

-- source and key, the kind, and the spare bytes
unfoldable pub middle_bytes : (kind : ℕ) → List ℕ
middle_bytes k = 0 ∷ 0 ∷ 0 ∷ 0 ∷ k ∷ 0 ∷ 0 ∷ 0 ∷ []

-- all bytes of a record
unfoldable pub record_bytes : Labelled → List ℕ
record_bytes x = high_bytes 8 (payload_of x.value) ++ (middle_bytes (kind_of x.value) ++ label_bytes x.labels)

-- what the record at p holds, if it holds something
abbrev pub content_at : List ℕ → ℕ → Labelled
content_at m p = labelled (value_from (byte m (kind_at p)) (word_at m p)) (set_at m (content_set_at p))

unfoldable pub record_in : List ℕ → ℕ → Option Labelled
record_in m p = pick (eqb (byte m (kind_at p)) 0) none (some (content_at m p))

unfoldable pub is_empty : Option Labelled → Bool
is_empty none = true
is_empty (some x) = false

unfoldable pub held_of : Option Labelled → CodeOption Labelled
held_of none = None
held_of (some x) = Some x
