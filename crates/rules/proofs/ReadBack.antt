-- A catalog's bytes read back as its entries: for entries whose numbers fit their fields, in at most 65,535 bytes. Assumes nothing.
use mathlib.Core.Path.{◌≡◌, refl, sym, ap, ◌∙◌}
use mathlib.Core.Bool.{Bool, true, false}
use mathlib.Core.List.{List, [], ◌∷◌, ◌++◌}
use Prim.Native.Nat.{ℕ, zero, suc, ◌+◌, ◌-◌, ◌^◌, ◌≤◌, ◌<◌}
use native.Mathlib.Omega.{arith}
use borrow.Author.Tests.{ltb-true, le-ltb}
use lib.IntN.{ℤ, pos, negsuc}
use lib.ListN.{length, take, drop, length-append}
use lib.Seq.{take-append_seam, drop-append_seam, drop-drop, drop_at}
use Rattle.labels.specs.declared.Labels.{Labels}
use Rattle.labels.specs.Bytes.{label_bytes, labels_from}
use Rattle.labels.proofs.Laws.{label_length, label_back}
use Rattle.values.specs.declared.Value.{Value}
use Rattle.values.specs.declared.Value.TheVariants.{Integer, String, Boolean}
use Rattle.rules.specs.Bytes.{two}
use Rattle.rules.specs.Read.{number, signed64}
use Rattle.rules.specs.Arithmetic.{fits64}
use Rattle.rules.specs.State.{Attribute, Entry}
use Rattle.rules.specs.Catalog.{high_bytes, field_bytes, word64, boolean_byte, value_bytes, attribute_bytes, attributes_bytes, entry_bytes, catalog_bytes, no_parts, shown, shown_all, bodies_up, bodies, value_of, attribute_of, attributes_of, entry_of, entries_of, read_catalog}
use Rattle.wire.proofs.Laws.{number_back}
use Rattle.rules.proofs.Lists.{Each, none_left, also}
pub use Rattle.rules.specs.Ranges.{FitsValue, fits_integer, fits_string, fits_boolean, FitsLabelled, FitsAttribute, FitsEntry}

-- ---- Numbers

-- of two bytes, whatever follows
pub two_back : (w : ℕ) (rest : List ℕ) → w < 65536 → two (high_bytes 2 w ++ rest) 0 ≡ w
unfolding two high_bytes number
two_back w rest h = omega (arith, number_back 2 w h)

-- an integer of 64 bits, from its two's complement
pub integer_back : (z : ℤ) → fits64 z ≡ true → signed64 (word64 z) ≡ z
unfolding signed64 word64 fits64
integer_back (pos n) e = ap (λ (b : Bool). elim b [ true ↦ pos n | false ↦ negsuc (18446744073709551615 - n) ]) e
integer_back (negsuc n) e =
    let h : n < 9223372036854775808 = ltb-true n 9223372036854775808 e in
    ap (λ (b : Bool). elim b [ true ↦ pos (18446744073709551615 - n) | false ↦ negsuc (18446744073709551615 - (18446744073709551615 - n)) ]) (le-ltb (18446744073709551615 - n) 9223372036854775808 (omega arith))
    ∙ ap negsuc (omega arith)

word64_lt : (z : ℤ) → fits64 z ≡ true → word64 z < 256 ^ 8
unfolding word64 fits64
word64_lt (pos n) e = let h : n < 9223372036854775808 = ltb-true n 9223372036854775808 e in omega arith
word64_lt (negsuc n) e = omega arith

-- ---- Sequences of fields

pub field_length : (t : ℕ) (b : List ℕ) → length (field_bytes t b) ≡ 3 + length b
unfolding field_bytes high_bytes
field_length t b = omega arith

-- elements written as fields one after the other are read back from the bodies of those fields, if each is read back from its own body
module _ {A : Type 0} (tag : ℕ) (body : A → List ℕ) (read : List ℕ → A) (bytes_of : List A → List ℕ) (list_of : List (List ℕ) → List A)
    (bytes-none : bytes_of [] ≡ []) (bytes_more : (x : A) (xs : List A) → bytes_of (x ∷ xs) ≡ field_bytes tag (body x) ++ bytes_of xs)
    (list-none : list_of [] ≡ []) (list_more : (b : List ℕ) (bs : List (List ℕ)) → list_of (b ∷ bs) ≡ read b ∷ list_of bs)
    (Fits : A → Type 0) (back : (x : A) → Fits x → length (body x) < 65536 → read (body x) ≡ x) where
  size_more : (x : A) (xs : List A) → length (bytes_of (x ∷ xs)) ≡ 3 + length (body x) + length (bytes_of xs)
  size_more x xs = ap length (bytes_more x xs) ∙ length-append (field_bytes tag (body x)) (bytes_of xs) ∙ ap (λ (n : ℕ). n + length (bytes_of xs)) (field_length tag (body x))

  -- the first body, and what is left after its field
  first_body : (k : ℕ) (b rest : List ℕ) → length b < 65536 → bodies_up (suc k) (field_bytes tag b ++ rest) ≡ b ∷ bodies_up k rest
  unfolding bodies_up field_bytes high_bytes two
  first_body k b rest h =
      let m : List ℕ = high_bytes 2 (length b) ++ (b ++ rest) in
      ap (λ (n : ℕ). take n (b ++ rest) ∷ bodies_up k (drop (2 + n) m)) (two_back (length b) (b ++ rest) h)
      ∙ ap (λ (x : List ℕ). x ∷ bodies_up k (drop (2 + length b) m)) (take-append_seam b rest)
      ∙ ap (λ (x : List ℕ). b ∷ bodies_up k x) (sym (drop-drop (length b) 2 m) ∙ drop-append_seam b rest)

  pub bodies_back : (k : ℕ) (xs : List A) → length (bytes_of xs) ≤ k → length (bytes_of xs) < 65536 → Each Fits xs → list_of (bodies_up k (bytes_of xs)) ≡ xs
  unfolding bodies_up
  bodies_back zero [] h l none_left = list-none
  bodies_back (suc k) [] h l none_left = ap (λ (b : List ℕ). list_of (bodies_up (suc k) b)) bytes-none ∙ list-none
  bodies_back zero (x ∷ xs) h l (also p f) = absurd (omega (arith, size_more x xs))
  bodies_back (suc k) (x ∷ xs) h l (also p f) =
      let size : length (bytes_of (x ∷ xs)) ≡ 3 + length (body x) + length (bytes_of xs) = size_more x xs in
      ap (λ (b : List ℕ). list_of (bodies_up (suc k) b)) (bytes_more x xs)
      ∙ ap list_of (first_body k (body x) (bytes_of xs) (omega arith))
      ∙ list_more (body x) (bodies_up k (bytes_of xs))
      ∙ ap (λ (y : A). y ∷ list_of (bodies_up k (bytes_of xs))) (back x p (omega arith))
      ∙ ap (λ (ys : List A). x ∷ ys) (bodies_back k xs (omega arith) (omega arith) f)

-- ---- Values, attributes, entries

pub value_back : (v : Value) → FitsValue v → value_of (value_bytes v) ≡ v
unfolding value_of value_bytes field_bytes high_bytes boolean_byte two
value_back (Integer z) (fits_integer e) = ap (λ (n : ℕ). Integer (signed64 n)) (number_back 8 (word64 z) (word64_lt z e)) ∙ ap Integer (integer_back z e)
value_back (String n) (fits_string h) = ap String (two_back n [] h)
value_back (Boolean true) fits_boolean = refl
value_back (Boolean false) fits_boolean = refl

-- what stands after a label set
after_labels : (s : Labels) (rest : List ℕ) → drop 32 (label_bytes s ++ rest) ≡ rest
after_labels s rest = drop_at (label_bytes s) rest 32 (label_length s)

-- the bodies of an attribute's and of an entry's field
attribute_body : Attribute → List ℕ
attribute_body a = high_bytes 2 a.name ++ (label_bytes a.content.labels ++ value_bytes a.content.value)

entry_body : Entry → List ℕ
entry_body e = high_bytes 2 e.type ++ (high_bytes 2 e.title ++ (label_bytes e.labels ++ attributes_bytes e.attributes))

attribute_back : (a : Attribute) → FitsAttribute a → length (attribute_body a) < 65536 → attribute_of (attribute_body a) ≡ a
unfolding attribute_of attribute_body high_bytes two
attribute_back a f l =
    let rest : List ℕ = value_bytes a.content.value in
    let e : ◌≡◌ {A = ℕ × (Value × Labels)} (two (attribute_body a) 0, (value_of (drop 32 (label_bytes a.content.labels ++ rest)), labels_from (label_bytes a.content.labels ++ rest))) (a.name, (a.content.value, a.content.labels)) =
    rw (two_back a.name (label_bytes a.content.labels ++ rest) f.name, after_labels, value_back a.content.value f.content.value, label_back a.content.labels rest f.content.labels) in
    ap (λ (x : ℕ × (Value × Labels)). record { name = x.0; content = record { value = x.1.0; labels = x.1.1 } }) e

attributes_back : (ats : List Attribute) → Each FitsAttribute ats → length (attributes_bytes ats) < 65536 → attributes_of (bodies (attributes_bytes ats)) ≡ ats
unfolding bodies attributes_bytes attributes_of attribute_bytes attribute_body
attributes_back ats f l =
    bodies_back 0x41 attribute_body attribute_of attributes_bytes attributes_of refl (λ x xs. refl) refl (λ b bs. refl) FitsAttribute attribute_back
    (length (attributes_bytes ats)) ats (omega arith) l f

-- an entry that fits, of which no more is known than its bytes show
record Plain (e : Entry) : Type 0 where
  fits : FitsEntry e
  plain : shown e ≡ e

entry_back : (e : Entry) → Plain e → length (entry_body e) < 65536 → entry_of (entry_body e) ≡ e
unfolding entry_of entry_body high_bytes two shown
entry_back e x l =
    let f = x.fits in
    let rest : List ℕ = attributes_bytes e.attributes in
    let m : List ℕ = label_bytes e.labels ++ rest in
    let size : length m ≡ 32 + length rest = length-append (label_bytes e.labels) rest ∙ ap (λ (n : ℕ). n + length rest) (label_length e.labels) in
    let read : ◌≡◌ {A = ℕ × ℕ × Labels × List Attribute} (two (entry_body e) 0, two (high_bytes 2 e.title ++ m) 0, labels_from m, attributes_of (bodies (drop 32 m))) (e.type, e.title, e.labels, e.attributes) =
    rw (two_back e.type (high_bytes 2 e.title ++ m) f.type, two_back e.title m f.title, after_labels e.labels rest, label_back e.labels rest f.labels, attributes_back e.attributes f.attributes (omega arith)) in
    ap (λ (x : ℕ × ℕ × Labels × List Attribute). record { type = x.0; title = x.1; labels = x.2; attributes = x.3; parts = λ n. no_parts }) read ∙ x.plain

pub shown_bytes : (es : List Entry) → catalog_bytes (shown_all es) ≡ catalog_bytes es
unfolding catalog_bytes shown_all shown entry_bytes
shown_bytes [] = refl
shown_bytes (e ∷ es) = ap (λ (b : List ℕ). entry_bytes e ++ b) (shown_bytes es)

pub shown_fit : (es : List Entry) → Each FitsEntry es → Each FitsEntry (shown_all es)
unfolding shown_all shown
shown_fit [] none_left = none_left
shown_fit (e ∷ es) (also f fs) = also (record { type = f.type; title = f.title; labels = f.labels; attributes = f.attributes }) (shown_fit es fs)

shown_plain : (es : List Entry) → Each FitsEntry (shown_all es) → Each Plain (shown_all es)
unfolding shown_all shown
shown_plain [] none_left = none_left
shown_plain (e ∷ es) (also f fs) = also (record { fits = f; plain = refl }) (shown_plain es fs)

-- the law: entries that fit, in at most 65,535 bytes, are read back as they are shown
pub read_back : (es : List Entry) → Each FitsEntry es → length (catalog_bytes es) < 65536 → read_catalog (catalog_bytes es) ≡ shown_all es
unfolding read_catalog bodies catalog_bytes entries_of entry_bytes entry_body
read_back es f l =
    ap read_catalog (sym (shown_bytes es))
    ∙ bodies_back 0x40 entry_body entry_of catalog_bytes entries_of refl (λ x xs. refl) refl (λ b bs. refl) Plain entry_back
    (length (catalog_bytes (shown_all es))) (shown_all es) (omega arith) (omega (arith, l, ap length (shown_bytes es))) (shown_plain es (shown_fit es f))
