-- Entries and attributes that stand in the output, and what is read of an attribute. Assumes nothing.
use mathlib.Core.Path.{◌≡◌, refl, sym, ap, ◌∙◌}
use mathlib.Core.Bool.{Bool, true, false, ◌&&◌}
use mathlib.Core.List.{List, [], ◌∷◌, ◌++◌, append_assoc, append-nil}
use Prim.Native.Nat.{ℕ, ◌+◌, ◌≤◌, ◌<◌}
use native.Mathlib.Omega.{arith}
use borrow.Author.Tests.{ltb-true, ne_eqb}
use lib.Dec.{eqb}
use lib.IntN.{ℤ, pos, negsuc}
use lib.ListN.{length, drop, take-append-drop}
use lib.Seq.{length-take-le}
use lib.Signed.{mag}
use Rattle.labels.specs.declared.Labels.{Labels}
use Rattle.labels.specs.Sets.{Words64}
use Rattle.labels.specs.Bytes.{label_bytes, labels_from, set_at}
use Rattle.labels.proofs.Laws.{label_length, label_back}
use Rattle.values.specs.declared.Value.{Value}
use Rattle.values.specs.declared.Value.TheVariants.{Integer, String, Boolean}
use Rattle.wire.specs.Bytes.{byte, two, end_of}
use Rattle.wire.specs.Numbers.{high_bytes, word64, number, signed64}
use Rattle.wire.specs.Runs.{bytes_at}
use Rattle.wire.proofs.Laws.{high_length, number_back, word_lt}
use Rattle.rules.specs.Arithmetic.{fits64}
use Rattle.rules.specs.State.{Attribute, Entry}
use Rattle.rules.specs.Evaluate.{first_with, is_entry, is_attribute}
use Rattle.catalog.specs.Layout.{entry_type, entry_title, entry_labels, entry_attributes, attribute_name, attribute_labels, attribute_value}
use Rattle.rules.specs.Catalog.{field_bytes, boolean_byte, value_bytes, attribute_bytes, attributes_bytes, entry_bytes, catalog_bytes}
use Rattle.rules.proofs.ReadBack.{FitsValue, fits_integer, fits_string, fits_boolean, FitsAttribute, FitsEntry, field_length, integer_back}
use Rattle.catalog.specs.Finding.{Written, Stands, EntryAt, Listed, entry_place, attribute_place, Below, value_at, content_at}
use Rattle.catalog.proofs.Making.{entry_size}
use Rattle.catalog.proofs.Standing.{stands_next, stands_same, stands_byte, stands_two, stands_run, field_end, field_body}
use Rattle.catalog.proofs.Search.{Hit, hits, FirstListed, first_listed}
use Rattle.std.specs.Prelude.{Option, Some}

-- ---- An entry that stands at p

entry_body : Entry → List ℕ
entry_body e = high_bytes 2 e.type ++ (high_bytes 2 e.title ++ (label_bytes e.labels ++ attributes_bytes e.attributes))

entry_is : (e : Entry) → entry_bytes e ≡ field_bytes 0x40 (entry_body e)
unfolding entry_bytes entry_body
entry_is e = refl

pub entry_length : (e : Entry) → length (entry_bytes e) ≡ entry_attributes + length (attributes_bytes e.attributes)
unfolding entry_bytes
entry_length e = entry_size (entry_attributes + length (attributes_bytes e.attributes)) e.type e.title e.labels e.attributes refl

module _ (m : List ℕ) {p : ℕ} (e : Entry) (stands : Stands m p (entry_bytes e)) where
  pub entry_body_lem : Stands m (p + 3) (high_bytes 2 e.type ++ (high_bytes 2 e.title ++ (label_bytes e.labels ++ attributes_bytes e.attributes)))
  unfolding entry_body
  entry_body_lem = field_body m 0x40 (entry_body e) (stands_same m (entry_is e) stands)

  pub after_type : Stands m (p + entry_title) (high_bytes 2 e.title ++ (label_bytes e.labels ++ attributes_bytes e.attributes))
  after_type = stands_next m (high_bytes 2 e.type) (high_bytes 2 e.title ++ (label_bytes e.labels ++ attributes_bytes e.attributes)) (omega (arith, high_length 2 e.type)) entry_body_lem

  pub after_title_lem : Stands m (p + entry_labels) (label_bytes e.labels ++ attributes_bytes e.attributes)
  after_title_lem = stands_next m {p = p + entry_title} (high_bytes 2 e.title) (label_bytes e.labels ++ attributes_bytes e.attributes) {q = p + entry_labels} (omega (arith, high_length 2 e.title)) after_type

  attributes_stand : Stands m (p + entry_attributes) (attributes_bytes e.attributes)
  attributes_stand = stands_next m (label_bytes e.labels) (attributes_bytes e.attributes) (omega (arith, label_length e.labels)) after_title_lem

  pub entry_test_lem : (t n : ℕ) → FitsEntry e → (eqb (two m (p + entry_type)) t && eqb (two m (p + entry_title)) n) ≡ is_entry t n e
  unfolding is_entry
  entry_test_lem t n f = rw (stands_two m e.type _ f.type entry_body_lem, stands_two m e.title _ f.title after_type)

-- its attributes lie between its header and its end
pub attributes_listed : (m : List ℕ) (p : ℕ) (e : Entry) {size : ℕ} → size ≡ two m (p + 1) → EntryAt m p e → Listed FitsAttribute attributes_bytes m (p + entry_attributes) (p + 3 + size) e.attributes
attributes_listed m p e {size} is s =
    let wide : length (entry_bytes e) ≡ entry_attributes + length (attributes_bytes e.attributes) = entry_length e in
    let field : length (entry_bytes e) ≡ 3 + length (entry_body e) = ap length (entry_is e) ∙ field_length 0x40 (entry_body e) in
    let end : end_of m p ≡ p + length (field_bytes 0x40 (entry_body e)) = field_end m 0x40 (entry_body e) (omega (arith, s.short)) (stands_same m (entry_is e) s.stands) in
    record {
      stands = attributes_stand m e s.stands;
      ends = omega (arith, ap length (entry_is e));
      short = omega (arith, s.short);
      fits = s.fits.attributes;
    }

-- ---- An attribute that stands at p

attribute_body : Attribute → List ℕ
attribute_body a = high_bytes 2 a.name ++ (label_bytes a.content.labels ++ value_bytes a.content.value)

attribute_is : (a : Attribute) → attribute_bytes a ≡ field_bytes 0x41 (attribute_body a)
unfolding attribute_bytes attribute_body
attribute_is a = refl

module _ (m : List ℕ) {p : ℕ} (a : Attribute) (stands : Stands m p (attribute_bytes a)) where
  pub attribute_body_lem : Stands m (p + 3) (high_bytes 2 a.name ++ (label_bytes a.content.labels ++ value_bytes a.content.value))
  unfolding attribute_body
  attribute_body_lem = field_body m 0x41 (attribute_body a) (stands_same m (attribute_is a) stands)

  after_name_lem : Stands m (p + attribute_labels) (label_bytes a.content.labels ++ value_bytes a.content.value)
  after_name_lem = stands_next m (high_bytes 2 a.name) (label_bytes a.content.labels ++ value_bytes a.content.value) (omega (arith, high_length 2 a.name)) attribute_body_lem

  pub after_labels : Stands m (p + attribute_value) (value_bytes a.content.value)
  after_labels = stands_next m (label_bytes a.content.labels) (value_bytes a.content.value) (omega (arith, label_length a.content.labels)) after_name_lem

  pub attribute_test_lem : (n : ℕ) → FitsAttribute a → eqb (two m (p + attribute_name)) n ≡ is_attribute n a
  unfolding is_attribute
  attribute_test_lem n f = rw (stands_two m a.name _ f.name attribute_body_lem)

-- the set and the value are read back
pub labels_back : (m : List ℕ) (p : ℕ) (k : Labels) (b : List ℕ) → Words64 k → Stands m p (label_bytes k ++ b) → set_at m p ≡ k
unfolding set_at
labels_back m p k b words s = ap labels_from (s.bytes ∙ append_assoc (label_bytes k) b s.after) ∙ label_back k (b ++ s.after) words

integer_small : (z : ℤ) → fits64 z ≡ true → mag z < 9223372036854775808
unfolding fits64
integer_small (pos n) h = ltb-true n 9223372036854775808 h
integer_small (negsuc n) h = ltb-true n 9223372036854775808 h

boolean_back : (b : Bool) → eqb (boolean_byte b) 1 ≡ b
unfolding boolean_byte
boolean_back true = refl
boolean_back false = refl

value_back : (m : List ℕ) (p : ℕ) (v : Value) → FitsValue v → Stands m p (value_bytes v) → value_at m p ≡ v
unfolding value_at value_bytes field_bytes
value_back m p (Integer z) (fits_integer h) s =
    let size : length (high_bytes 8 (word64 z)) ≡ 8 = high_length 8 (word64 z) in
    let run : bytes_at m (p + 3) (length (high_bytes 8 (word64 z))) ≡ high_bytes 8 (word64 z) =
    stands_run m (high_bytes 8 (word64 z)) (omega arith) (field_body m 0x42 (high_bytes 8 (word64 z)) s) in
    let run8 : bytes_at m (p + 3) 8 ≡ high_bytes 8 (word64 z) = ap (bytes_at m (p + 3)) (sym size) ∙ run in
    rw (stands_byte m 0x42 _ s, run8, number_back 8 (word64 z) (word_lt z (integer_small z h))) (ap Integer (integer_back z h))
value_back m p (String n) (fits_string h) s =
    let body : Stands m (p + 3) (high_bytes 2 n) = field_body m 0x43 (high_bytes 2 n) s in
    rw (stands_byte m 0x43 _ s, stands_two m n [] h (stands_same m (sym (append-nil (high_bytes 2 n))) body))
value_back m p (Boolean b) fits_boolean s =
    let body : Stands m (p + 3) (boolean_byte b ∷ []) = field_body m 0x44 (boolean_byte b ∷ []) s in
    rw (stands_byte m 0x44 _ s, stands_byte m (boolean_byte b) [] body, boolean_back b)

pub content_back : (m : List ℕ) (p : ℕ) (a : Attribute) → FitsAttribute a → Stands m p (attribute_bytes a) → content_at m p ≡ a.content
unfolding content_at
content_back m p a f s =
    let value : value_at m (p + attribute_value) ≡ a.content.value = value_back m (p + attribute_value) a.content.value f.content.value (after_labels m a s) in
    let labels : set_at m (p + attribute_labels) ≡ a.content.labels = labels_back m (p + attribute_labels) a.content.labels (value_bytes a.content.value) f.content.labels (after_name_lem m a s) in
    rw (value, labels)

-- ---- The ways of the small readers

module _ (m : List ℕ) (p : ℕ) where
  module _ {tag : ℕ} (is : tag ≡ byte m p) where
    pub integer_read : {y z : ℤ} → tag ≡ 0x42 → y ≡ z → z ≡ signed64 (number (bytes_at m (p + 3) 8) 0) → Integer y ≡ value_at m p
    unfolding value_at
    integer_read e same read = let at : byte m p ≡ 0x42 = sym is ∙ e in rw (at, same, read)

    pub string_read : {n : ℕ} → tag ≡ 0x43 → n ≡ two m (p + 3) → String n ≡ value_at m p
    unfolding value_at
    string_read e read = let at : byte m p ≡ 0x43 = sym is ∙ e in rw (at, read)

    pub boolean_read : {b : ℕ} → (tag ≡ 0x42 → ⊥) → (tag ≡ 0x43 → ⊥) → b ≡ byte m (p + 3) → Boolean (eqb b 1) ≡ value_at m p
    unfolding value_at
    boolean_read a b read = rw (ne_eqb (byte m p) 0x42 (λ e. a (is ∙ e)), ne_eqb (byte m p) 0x43 (λ e. b (is ∙ e)), read)

-- ---- The entries from the start of the output

pub entries_listed : (m : List ℕ) (fill : ℕ) (es : List Entry) → fill ≤ 65535 → fill ≤ length m → Written m fill es → Listed FitsEntry catalog_bytes m 0 fill es
entries_listed m fill es small within w =
    let size : length (catalog_bytes es) ≡ fill = ap length (sym w.bytes) ∙ length-take-le fill m within in
    record {
      stands = record { after = drop fill m; bytes = sym (take-append-drop fill m) ∙ ap (λ (l : List ℕ). l ++ drop fill m) w.bytes };
      ends = omega arith;
      short = omega arith;
      fits = w.fits;
    }

-- ---- What is found, and where

pub below_at : {r : Option ℕ} {p e : ℕ} → Below e r → r ≡ Some p → p < e
unfolding Below
below_at b is = rw is at b

pub entry_hits : (m : List ℕ) (fill t n : ℕ) → fill ≤ 65535 → fill ≤ length m → (es : List Entry) → Written m fill es → Hit entry_bytes FitsEntry m (first_with (is_entry t n) es) (entry_place t n es)
unfolding catalog_bytes entry_place
entry_hits m fill t n small within es w =
    hits 0x40 entry_body entry_bytes catalog_bytes FitsEntry (is_entry t n) entry_is refl (λ x xs. refl) m es (entries_listed m fill es small within w)

pub attribute_hits : (m : List ℕ) (p : ℕ) (e : Entry) (n : ℕ) → EntryAt m p e → Hit attribute_bytes FitsAttribute m (first_with (is_attribute n) e.attributes) (attribute_place n e p)
unfolding attributes_bytes attribute_place
attribute_hits m p e n s =
    hits 0x41 attribute_body attribute_bytes attributes_bytes FitsAttribute (is_attribute n) attribute_is refl (λ x xs. refl) m e.attributes (attributes_listed m p e refl s)

-- ---- The first entry and the first attribute of those listed

pub entry_first : (m : List ℕ) {p end : ℕ} (e : Entry) (es : List Entry) → Listed FitsEntry catalog_bytes m p end (e ∷ es) → FirstListed entry_bytes FitsEntry catalog_bytes m p end e es
unfolding catalog_bytes
entry_first m e es l = first_listed 0x40 entry_body entry_bytes catalog_bytes FitsEntry (is_entry 0 0) entry_is refl (λ x xs. refl) m e es l

pub attribute_first : (m : List ℕ) {p end : ℕ} (a : Attribute) (ats : List Attribute) → Listed FitsAttribute attributes_bytes m p end (a ∷ ats) → FirstListed attribute_bytes FitsAttribute attributes_bytes m p end a ats
unfolding attributes_bytes
attribute_first m a ats l = first_listed 0x41 attribute_body attribute_bytes attributes_bytes FitsAttribute (is_attribute 0) attribute_is refl (λ x xs. refl) m a ats l
