-- From a manifest to its text: the refusals, and every byte lent.
use Rattle.std.specs.Prelude.{ℕ, List, [], ◌∷◌, Bool, true, false, not, ◌&&◌, ◌||◌, ltb, leb, eqb, length}
use Rattle.std.proofs.Math.Option.{Option, none, some}
use Rattle.values.specs.declared.Reason.TheVariants.{MemoryTooShort, ManifestLength, Unprintable}
use Rattle.rules.specs.Bytes.{pick, byte, two}
use Rattle.rules.specs.Format.{form_of, size, is_constant}
use Rattle.rules.specs.declared.Piece.{Piece}
use Rattle.rules.specs.declared.Piece.TheVariants.{Nothing, Label, Integer, Boolean, Operator, Name}
use Rattle.rules.specs.Check.{check}
use Rattle.rules.specs.Fields.{Field, field, Fields, none as fields_end, more, read_all, others}
use Rattle.rules.specs.Read.{manifest_of}
use Rattle.rules.specs.Tree.{Manifest}
use Rattle.rules.specs.Types.{Types, check_types}
use Rattle.rules.specs.Compile.{string_at, checked, is_built_in}
use Rattle.rules.specs.Outcome.{Outcome, ◌>>=◌, refuse_if, done}
use Rattle.notation.specs.Tokens.{Lexeme}
use Rattle.notation.specs.Lexing.{is_letter, in_word, keywords, keyword_in}
use Rattle.notation.specs.Print.{printed_items}
use Rattle.notation.specs.Layout.{laid_out}
use Rattle.notation.specs.Convert.{refuse_at, too_long, Effect, effect_of}

-- ---- 26: "at the lowest field of"

unfoldable pub all_in_word : List ℕ → Bool
all_in_word [] = true
all_in_word (c ∷ cs) = in_word c && all_in_word cs

unfoldable pub no_keyword : Option ℕ → Bool
no_keyword none = true
no_keyword (some k) = false

-- "Names are lower-case letters, digits and underscores, a letter first, no keyword"
unfoldable pub is_name : List ℕ → Bool
is_name [] = false
is_name (c ∷ cs) = is_letter c && (all_in_word cs && no_keyword (keyword_in keywords (c ∷ cs)))

-- going over fields: the first that cannot be printed, or the label of the last constant
pub data Gone : Type 0 where
  stops : (place : ℕ) → Gone
  past : (label : ℕ) → Gone

abbrev pub going : Gone → (ℕ → Gone) → Gone
going (stops p) f = stops p
going (past l) f = f l

unfoldable pub stopped_at : Gone → Option ℕ
stopped_at (stops p) = some p
stopped_at (past l) = none

module _ (strings : List (List ℕ)) where
  -- a piece at i of the head h: a name that the notation can spell
  unfoldable pub spellable : (head : List ℕ) → (i : ℕ) → Piece → Bool
  spellable h i Nothing = true
  spellable h i Label = true
  spellable h i Integer = true
  spellable h i Boolean = true
  spellable h i Operator = true
  spellable h i Name = is_name (string_at strings (two h i))

  -- "a field other than 11 and 31 that holds a name the notation cannot spell"
  unfoldable pub names_spellable : (tag : ℕ) → (head : List ℕ) → Bool
  names_spellable t h = eqb t 0x11 || (eqb t 0x31 || (spellable h 0 (form_of t).one && spellable h (size (form_of t).one) (form_of t).two))

  -- "a constant whose label is below that of the constant before it": l is that label
  unfoldable pub label_right : (l tag : ℕ) → (head : List ℕ) → Bool
  label_right l t h = not (is_constant t) || leb l (byte h 0)

module _ (types : Types) (strings : List (List ℕ)) where
  -- "a 25 whose type is not in the list, a 27 whose type is"
  unfoldable pub type_right : (tag : ℕ) → (head : List ℕ) → Bool
  type_right t h = pick (eqb t 0x25) (is_built_in types strings (two h 0)) (pick (eqb t 0x27) (not (is_built_in types strings (two h 0))) true)

  -- the fields in the order of their places
  unfoldable mutual
    pub over : Field → (l : ℕ) → Gone
    over (field p t h ks) l =
        pick (label_right strings l t h && (names_spellable strings t h && type_right t h))
        (over_all ks (pick (is_constant t) (byte h 0) l))
        (stops p)

    pub over_all : Fields → (l : ℕ) → Gone
    over_all fields_end l = past l
    over_all (more k ks) l = going (over k l) (over_all ks)

-- the items, which come behind the table
unfoldable pub unprintable_at : Types → (manifest : List ℕ) → Option ℕ
unprintable_at types m = stopped_at (over_all types (manifest_of m).strings (others (read_all m)) 0)

-- ---- The whole

unfoldable pub tokens_of : Manifest → List Lexeme
tokens_of m = printed_items (string_at m.strings) m.items 0 (λ v. [])

unfoldable pub text_of : Manifest → List ℕ
text_of m = laid_out (tokens_of m) none 0 0

-- 1; 28; 2; 3 and 4; 5; 26; 26 of the text's length
unfoldable pub printed_text : Types → (manifest : List ℕ) → (output_length memory_length : ℕ) → Outcome (List ℕ)
printed_text types manifest output_length memory_length = do
  _ ← refuse_if (ltb memory_length 65536) MemoryTooShort 0
  _ ← checked (check_types types)
  _ ← refuse_if (eqb (length manifest) 0 || ltb 65535 (length manifest)) ManifestLength 0
  _ ← checked (check manifest)
  _ ← refuse_at (unprintable_at types manifest) Unprintable
  _ ← refuse_if (too_long (text_of (manifest_of manifest)) output_length) Unprintable 0
  done (text_of (manifest_of manifest))

unfoldable pub print : Types → (manifest : List ℕ) → (output_length memory_length : ℕ) → Effect
print types manifest output_length memory_length = effect_of output_length memory_length (printed_text types manifest output_length memory_length)
