-- From a text to a manifest: the table of its strings, the tree with their numbers, the refusals, and every byte lent.
use Rattle.std.specs.Prelude.{ℕ, ◌-◌, min, List, [], ◌∷◌, ◌++◌, Bool, ◌&&◌, ◌||◌, ltb, length, replicate, Ok, Err}
use Rattle.std.proofs.Math.Option.{Option, none, some}
use Rattle.values.specs.declared.Reason.TheVariants.{MemoryTooShort, OutsideNotation, PastLine255}
use Rattle.values.specs.declared.Reason.{Reason}
use Rattle.values.specs.Numbers.{number_of}
use Rattle.rules.specs.Bytes.{pick}
use Rattle.rules.specs.Format.{is_constant}
use Rattle.rules.specs.Check.{ascends}
use Rattle.rules.specs.Fields.{Field, field, Fields, none as fields_end, more, write_all}
use Rattle.rules.specs.Catalog.{high_bytes}
use Rattle.rules.specs.Compile.{string_number, checked}
use Rattle.rules.specs.Outcome.{Outcome, refused, done, ◌>>=◌, refuse_if}
use Rattle.rules.specs.Types.{Types, check_types}
use Rattle.notation.specs.Tokens.{Token, word, number, text, variable, top_variable, class_variable, mark, Lexeme, place_of, token_of}
use Rattle.notation.specs.Lexing.{tokens}
use Rattle.notation.specs.Building.{Piece, byte, name, Node, node, Nodes, empty, ◌▸◌, frame, build}
use Rattle.notation.specs.Grammar.{or_zero, Ended, built, fault, reading}
use Rattle.notation.specs.Answers.{Answer}
use Rattle.values.specs.Answers.{refused_for}

-- ---- Strings: "the table holds exactly the strings that fields name, once, rising"

-- the strings in a token
unfoldable pub strings_of : Token → List (List ℕ)
strings_of (word w) = w ∷ []
strings_of (number z) = []
strings_of (text s) = s ∷ []
strings_of (variable n) = n ∷ []
strings_of (top_variable n) = n ∷ []
strings_of (class_variable c n) = c ∷ n ∷ []
strings_of (mark k) = []

-- a string put in its place among rising ones, unless it is there
unfoldable pub entered : List ℕ → List (List ℕ) → List (List ℕ)
entered s [] = s ∷ []
entered s (t ∷ table) = pick (ascends s t) (s ∷ t ∷ table) (pick (ascends t s) (t ∷ entered s table) (t ∷ table))

unfoldable pub entered_all : List (List ℕ) → List (List ℕ) → List (List ℕ)
entered_all [] table = table
entered_all (s ∷ strings) table = entered_all strings (entered s table)

-- the table behind some tokens
unfoldable pub table_behind : List Lexeme → List (List ℕ) → List (List ℕ)
table_behind [] table = table
table_behind (x ∷ xs) table = table_behind xs (entered_all (strings_of (token_of x)) table)

-- "the 1,025th different string": the place of the token that brings it
unfoldable pub crowded_at : List Lexeme → List (List ℕ) → Option ℕ
crowded_at [] table = none
crowded_at (x ∷ xs) table =
    pick (ltb 1024 (length (entered_all (strings_of (token_of x)) table))) (some (place_of x))
    (crowded_at xs (entered_all (strings_of (token_of x)) table))

-- ---- The tree with string numbers

module _ (table : List (List ℕ)) where
  unfoldable pub piece_bytes : Piece → List ℕ
  piece_bytes (byte b) = b ∷ []
  piece_bytes (name s) = high_bytes 2 (or_zero (string_number s table 0))

  unfoldable pub head_bytes : List Piece → List ℕ
  head_bytes [] = []
  head_bytes (x ∷ xs) = piece_bytes x ++ head_bytes xs

  -- a field; and fields, with what follows them
  unfoldable mutual
    pub numbered : Node → Field
    numbered (node p t h ks) = field p t (head_bytes h) (numbered_onto ks fields_end)

    pub numbered_onto : Nodes → Fields → Fields
    numbered_onto empty rest = rest
    numbered_onto (ks ▸ k) rest = numbered_onto ks (more (numbered k) rest)

unfoldable pub string_fields : List (List ℕ) → Fields
string_fields [] = fields_end
string_fields (s ∷ strings) = more (field 0 0x02 s fields_end) (string_fields strings)

-- "one field 01, then items"
unfoldable pub manifest_fields : (table : List (List ℕ)) → Nodes → Fields
manifest_fields table items = more (field 0 0x01 [] (string_fields table)) (numbered_onto table items fields_end)

-- ---- Refusals

-- 24: "reading from the left", at the first token that is malformed, may not stand there or passes a limit
unfoldable pub read_text : Ended → (crowded : Option ℕ) → Outcome Nodes
read_text (built (build b (frame p t h ks) fs)) none = done ks
read_text (built f) (some q) = refused OutsideNotation q
read_text (fault p) none = refused OutsideNotation p
read_text (fault p) (some q) = refused OutsideNotation (min p q)

-- the label of a constant
abbrev pub label_in : List Piece → ℕ
label_in [] = 0
label_in (byte l ∷ h) = l
label_in (name s ∷ h) = 0

abbrev pub or_later : Option ℕ → Option ℕ → Option ℕ
or_later none q = q
or_later (some p) q = some p

-- 25: "at the first byte of the first constant on line 256 or later"
unfoldable mutual
  pub late_in : Node → Option ℕ
  late_in (node p t h ks) = pick (is_constant t && ltb 255 (label_in h)) (some p) (late_among ks)

  pub late_among : Nodes → Option ℕ
  late_among empty = none
  late_among (ks ▸ k) = or_later (late_among ks) (late_in k)

unfoldable pub refuse_at : Option ℕ → Reason → Outcome (Unit {0})
refuse_at none r = done tt
refuse_at (some p) r = refused r p

-- "over 65,535 bytes or does not fit the output"
unfoldable pub too_long : List ℕ → (output_length : ℕ) → Bool
too_long written output_length = ltb 65535 (length written) || ltb output_length (length written)

-- ---- The whole

-- the items of a text
unfoldable pub text_items : Types → List Lexeme → Outcome Nodes
text_items types xs = read_text (reading types xs) (crowded_at xs [])

-- a tree of items as a manifest
unfoldable pub manifest_bytes : List Lexeme → Nodes → List ℕ
manifest_bytes xs items = write_all (manifest_fields (table_behind xs []) items)

-- 1; 28; 24 of the text's length; 24; 25; 24 of the manifest's length
unfoldable pub converted : Types → (given : List ℕ) → (output_length memory_length : ℕ) → Outcome (List ℕ)
converted types given output_length memory_length = do
  _ ← refuse_if (ltb memory_length 65536) MemoryTooShort 0
  _ ← checked (check_types types)
  _ ← refuse_if (ltb 65535 (length given)) OutsideNotation 0
  items ← text_items types (tokens given)
  _ ← refuse_at (late_among items) PastLine255
  _ ← refuse_if (too_long (manifest_bytes (tokens given) items) output_length) OutsideNotation 0
  done (manifest_bytes (tokens given) items)

-- ---- What a call of a text tool leaves

unfoldable pub answer_of : Outcome (List ℕ) → Answer
answer_of (refused reason place) = refused_for reason place
answer_of (done written) = Ok (length written)

-- "a refusal leaves all output zero"; behind what is written the output is zero
unfoldable pub output_of : (output_length : ℕ) → Outcome (List ℕ) → List ℕ
output_of output_length (refused reason place) = replicate output_length 0
output_of output_length (done written) = written ++ replicate (output_length - length written) 0

-- the answer, and all bytes of the output and of the memory lent to the call, as they are after it
pub record Effect : Type 0 where
  pub answer : Answer
  pub output_after : List ℕ
  pub memory_after : List ℕ

unfoldable pub effect_of : (output_length memory_length : ℕ) → Outcome (List ℕ) → Effect
effect_of output_length memory_length o = record { answer = answer_of o; output_after = output_of output_length o; memory_after = replicate memory_length 0 }

unfoldable pub convert : Types → (given : List ℕ) → (output_length memory_length : ℕ) → Effect
convert types given output_length memory_length = effect_of output_length memory_length (converted types given output_length memory_length)

-- an answer in the papers' numbers: the length, or number and place
pub data Said : Type 0 where
  accepted : (length : ℕ) → Said
  refusal : (number place : ℕ) → Said

unfoldable pub said : Answer → Said
said (Ok n) = accepted n
said (Err f) = refusal (number_of f.reason) f.place
