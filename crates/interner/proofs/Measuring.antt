-- The lengths of a string and of the fields of a table, step by step.
use Prim.Native.Nat.{ℕ, zero, suc, ◌+◌, ◌*◌, ◌-◌, ◌<◌, ◌≤◌}
use mathlib.Core.Path.{◌≡◌, refl, sym, ap, ◌∙◌}
use mathlib.Core.List.{List, [], ◌∷◌, ◌++◌, append-nil}
use native.Mathlib.Omega.{arith}
use native.Mathlib.Numerals.{add-one}
use lib.ListN.{length, length-append}
use Rattle.rules.specs.Bytes.{two}
use Rattle.rules.specs.Fields.{wrap, write, write_all}
use Rattle.notation.specs.Quoted.{string_from}
use Rattle.notation.specs.Convert.{string_fields}
use Rattle.interner.specs.Strings.{rest_of, from_code, Stepped}
use Rattle.interner.specs.Table.{listed, entry_string, strings}
use Rattle.interner.specs.TableField.{table_bytes}

-- ---- A string

-- by the code of its first byte: the end
code_none : (code : ℕ) (rest : List ℕ) → code ≡ 0 → from_code code rest ≡ []
unfolding from_code
code_none code rest e = rw (e, from_code)

-- or a byte and the rest
code_some : (code : ℕ) (rest : List ℕ) → (code ≡ 0 → ⊥) → from_code code rest ≡ (code - 1) ∷ rest
unfolding from_code
code_some zero rest n = absurd (n refl)
code_some (suc b) rest n = let same : b ≡ suc b - 1 = omega arith in ap (λ (x : ℕ). x ∷ rest) same

module _ {t : List ℕ} {q p code behind : ℕ} (x : Stepped t q p code behind) where
  -- nothing is left
  pub string_ends : code ≡ 0 → rest_of t q p ≡ []
  string_ends e = x.string ∙ code_none code (rest_of t q behind) e

  -- a byte, and what is left behind it
  pub string_goes_on : (code ≡ 0 → ⊥) → rest_of t q p ≡ (code - 1) ∷ rest_of t q behind
  string_goes_on n = x.string ∙ code_some code (rest_of t q behind) n

  -- the length of what is left
  pub none_left : code ≡ 0 → length (rest_of t q p) ≡ 0
  none_left e = ap length (string_ends e)

  pub one_less_left : (code ≡ 0 → ⊥) → length (rest_of t q p) ≡ length (rest_of t q behind) + 1
  one_less_left n = ap length (string_goes_on n) ∙ omega arith

  -- the place moves on, within the text
  pub moves_on : (code ≡ 0 → ⊥) → (p < behind) × (behind ≤ length t)
  moves_on n = (x.onward (omega (arith, n)), x.within (omega (arith, n)))

-- ---- The fields of a table

-- the fields of the entries from i on
abbrev pub fields_from : (t table : List ℕ) → (count i : ℕ) → List ℕ
fields_from t table count i = write_all (string_fields (listed (entry_string t table) i (count - i)))

-- the string at a place that was read is that of the entry
pub entry_at : (t table : List ℕ) (place i : ℕ) → place ≡ two table (2 * i) → string_from t place ≡ entry_string t table i
unfolding entry_string
entry_at t table place i e = rw e

-- the field of one string, then the others
one_field : (s : List ℕ) (others : List (List ℕ)) → write_all (string_fields (s ∷ others)) ≡ wrap 0x02 s ++ write_all (string_fields others)
unfolding string_fields write_all write
one_field s others = rw (append-nil s)

-- a header has three bytes
pub wrap_length : (tag : ℕ) (body : List ℕ) → length (wrap tag body) ≡ 3 + length body
unfolding wrap
wrap_length tag body = omega arith

module _ (t table : List ℕ) (count : ℕ) where
  -- the fields from the first on are all
  pub all_fields : fields_from t table count 0 ≡ write_all (string_fields (strings t table count))
  unfolding strings
  all_fields = let all : count - 0 ≡ count = omega arith in rw all

  -- all fields, in a field
  pub whole_field : table_bytes t table count ≡ wrap 0x01 (write_all (string_fields (strings t table count)))
  unfolding write
  whole_field = refl

  -- the length of all, with the header
  pub whole_size : length (table_bytes t table count) ≡ 3 + length (write_all (string_fields (strings t table count)))
  whole_size = ap length whole_field ∙ wrap_length 0x01 (write_all (string_fields (strings t table count)))

  pub whole_length : length (table_bytes t table count) ≡ 3 + length (fields_from t table count 0)
  whole_length = whole_size ∙ ap (λ (fs : List ℕ). 3 + length fs) (sym all_fields)

  -- the field of entry i, then the others
  pub next_field : (i : ℕ) → i < count → fields_from t table count i ≡ wrap 0x02 (entry_string t table i) ++ fields_from t table count (i + 1)
  unfolding listed
  next_field i l =
      let more : count - i ≡ suc (count - (i + 1)) = omega arith in
      rw (more, one_field, add-one)

  -- their lengths
  pub next_length : (i : ℕ) → i < count → length (fields_from t table count i) ≡ 3 + length (entry_string t table i) + length (fields_from t table count (i + 1))
  next_length i l = ap length (next_field i l) ∙ length-append (wrap 0x02 (entry_string t table i)) (fields_from t table count (i + 1)) ∙ ap (λ (k : ℕ). k + length (fields_from t table count (i + 1))) (wrap_length 0x02 (entry_string t table i))

  -- behind the last there are none
  pub no_field : (i : ℕ) → count ≤ i → fields_from t table count i ≡ []
  unfolding listed string_fields write_all
  no_field i l = let none : count - i ≡ 0 = omega arith in rw none
