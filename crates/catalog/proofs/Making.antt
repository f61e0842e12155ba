-- The entry in the making: the ways of the code that writes it, and what holds of it step by step. Assumes nothing.
use mathlib.Core.Path.{◌≡◌, refl, sym, ap, ◌∙◌}
use mathlib.Core.Bool.{Bool, true, false}
use mathlib.Core.List.{List, [], ◌∷◌, ◌++◌, append_assoc}
use Prim.Native.Nat.{ℕ, ◌+◌, ◌-◌, ◌≤◌, ◌<◌}
use native.Mathlib.Omega.{arith}
use borrow.Author.Tests.{lt-ltb, le-ltb}
use lib.IntN.{ℤ}
use lib.ListN.{length, drop, length-append, take-append-drop}
use lib.Seq.{drop-drop}
use Rattle.labels.specs.declared.Labels.{Labels}
use Rattle.labels.specs.Bytes.{label_bytes}
use Rattle.labels.proofs.Laws.{label_length}
use Rattle.values.specs.declared.Value.{Value}
use Rattle.values.specs.declared.Value.TheVariants.{Integer, String, Boolean}
use Rattle.values.specs.declared.Labelled.{Labelled}
use Rattle.wire.specs.Numbers.{high_bytes, word64}
use Rattle.wire.specs.Runs.{over}
use Rattle.wire.proofs.Laws.{then_store, high_length, one_byte}
use Rattle.rules.specs.State.{Attribute}
use Rattle.rules.specs.Catalog.{field_bytes, boolean_byte, value_bytes, attribute_bytes, attributes_bytes, entry_bytes}
use Rattle.rules.proofs.ReadBack.{field_length}
use Rattle.catalog.specs.Layout.{header_size, entry_type, entry_title, entry_labels, entry_attributes, attribute_name, attribute_labels, attribute_value, before_value}
use Rattle.catalog.specs.Making.{stored, attribute, entry, add_attribute, Holding, put_entry}
use Rattle.catalog.proofs.Stores.{over_start}
use Rattle.std.specs.Int.{from_bool}
use Rattle.std.specs.Prelude.{Some, None}

-- ---- Fields

-- a header, then the body
pub field_stored : (m : List ℕ) (p t n : ℕ) (b : List ℕ) {m1 m2 : List ℕ} → m1 ≡ over m p (t ∷ high_bytes 2 n) → m2 ≡ over m1 (p + 3) b → n ≡ length b → m2 ≡ over m p (field_bytes t b)
unfolding field_bytes
field_stored m p t n b header body size =
    then_store m p (t ∷ high_bytes 2 n) (p + 3) b header body (omega (arith, high_length 2 n)) ∙ ap (λ (k : ℕ). over m p (t ∷ high_bytes 2 k ++ b)) size

pub as_byte : (b : Bool) → from_bool b ≡ boolean_byte b
unfolding boolean_byte
as_byte true = refl
as_byte false = refl

boolean_small : (b : Bool) → boolean_byte b < 256
unfolding boolean_byte
boolean_small true = omega arith
boolean_small false = omega arith

-- the ways of `put_value`
module _ (m : List ℕ) (p : ℕ) {m1 m2 : List ℕ} where
  pub integer_stored : {v : Value} (z : ℤ) {y : ℤ} → v ≡ Integer z → y ≡ z → m1 ≡ over m p (0x42 ∷ high_bytes 2 8) → m2 ≡ over m1 (p + 3) (high_bytes 8 (word64 y)) → m2 ≡ over m p (value_bytes v)
  unfolding value_bytes
  integer_stored z is e h b =
      rw is (field_stored m p 0x42 8 (high_bytes 8 (word64 z)) h (b ∙ ap (λ (x : ℤ). over m1 (p + 3) (high_bytes 8 (word64 x))) e) (sym (high_length 8 (word64 z))))

  pub string_stored : {v : Value} (n : ℕ) → v ≡ String n → m1 ≡ over m p (0x43 ∷ high_bytes 2 2) → m2 ≡ over m1 (p + attribute_name) (high_bytes 2 n) → m2 ≡ over m p (value_bytes v)
  unfolding value_bytes
  string_stored n is h b = rw is (field_stored m p 0x43 2 (high_bytes 2 n) h b (sym (high_length 2 n)))

  pub boolean_stored : {v : Value} (b : Bool) (x : ℕ) → v ≡ Boolean b → x ≡ boolean_byte b → m1 ≡ over m p (0x44 ∷ high_bytes 2 1) → m2 ≡ over m1 (p + 3) (high_bytes 1 x) → m2 ≡ over m p (value_bytes v)
  unfolding value_bytes
  boolean_stored b x is e h body =
      rw is (field_stored m p 0x44 1 (boolean_byte b ∷ []) h (body ∙ ap (λ (y : ℕ). over m1 (p + 3) (high_bytes 1 y)) e ∙ ap (over m1 (p + 3)) (one_byte (boolean_byte b) (boolean_small b))) refl)

-- the ways of `value_size`
module _ {v : Value} where
  pub integer_size : (z : ℤ) → v ≡ Integer z → 11 ≡ length (value_bytes v)
  unfolding value_bytes
  integer_size z is = rw is (omega (arith, field_length 0x42 (high_bytes 8 (word64 z)), high_length 8 (word64 z)))

  pub string_size : (n : ℕ) → v ≡ String n → 5 ≡ length (value_bytes v)
  unfolding value_bytes
  string_size n is = rw is (omega (arith, field_length 0x43 (high_bytes 2 n), high_length 2 n))

  pub boolean_size : (b : Bool) → v ≡ Boolean b → 4 ≡ length (value_bytes v)
  unfolding value_bytes
  boolean_size b is = rw is (omega (arith, field_length 0x44 (boolean_byte b ∷ [])))

pub value_most : (v : Value) → length (value_bytes v) ≤ 11
value_most (Integer z) = omega (arith, integer_size z refl)
value_most (String n) = omega (arith, string_size n refl)
value_most (Boolean b) = omega (arith, boolean_size b refl)

pub value_least : (v : Value) → 4 ≤ length (value_bytes v)
value_least (Integer z) = omega (arith, integer_size z refl)
value_least (String n) = omega (arith, string_size n refl)
value_least (Boolean b) = omega (arith, boolean_size b refl)

attribute_body_lem : (n : ℕ) (k : Labels) (b : List ℕ) → length (high_bytes 2 n ++ (label_bytes k ++ b)) ≡ before_value + length b
attribute_body_lem n k b = simp (length-append, high_length, label_length) (omega arith)

pub attribute_size : (n : ℕ) (x : Labelled) → length (attribute_bytes (attribute n x)) ≡ attribute_value + length (value_bytes x.value)
unfolding attribute_bytes
attribute_size n x = field_length 0x41 _ ∙ omega (arith, attribute_body_lem n x.labels (value_bytes x.value))

-- ---- One attribute: the ways of `add_attribute`

module _ (m : List ℕ) (p n : ℕ) (x : Labelled) {size : ℕ} (is : size ≡ length (value_bytes x.value)) where
  end_is : p + header_size + (before_value + size) ≡ p + length (attribute_bytes (attribute n x))
  end_is = omega (arith, attribute_size n x)

  attribute_stored : {m1 m2 m3 m4 : List ℕ} → m1 ≡ over m p (0x41 ∷ high_bytes 2 (before_value + size)) → m2 ≡ over m1 (p + attribute_name) (high_bytes 2 n) → m3 ≡ over m2 (p + attribute_labels) (label_bytes x.labels) → m4 ≡ over m3 (p + attribute_value) (value_bytes x.value)
      → m4 ≡ over m p (attribute_bytes (attribute n x))
  unfolding attribute_bytes
  attribute_stored {m1} {m2} {m3} {m4} header name labels value =
      let two : m3 ≡ over m1 (p + 3) (high_bytes 2 n ++ label_bytes x.labels) =
      then_store m1 (p + attribute_name) (high_bytes 2 n) (p + attribute_labels) (label_bytes x.labels) name labels (omega (arith, high_length 2 n)) in
      let wide : length (high_bytes 2 n ++ label_bytes x.labels) ≡ before_value = simp (length-append, high_length, label_length) in
      let three : m4 ≡ over m1 (p + 3) (high_bytes 2 n ++ label_bytes x.labels ++ value_bytes x.value) =
      then_store m1 (p + attribute_name) (high_bytes 2 n ++ label_bytes x.labels) (p + attribute_value) (value_bytes x.value) two value (omega arith) in
      field_stored m p 0x41 (before_value + size) (high_bytes 2 n ++ (label_bytes x.labels ++ value_bytes x.value)) header
      (three ∙ ap (over m1 (p + 3)) (append_assoc (high_bytes 2 n) (label_bytes x.labels) (value_bytes x.value)))
      (omega (arith, attribute_body_lem n x.labels (value_bytes x.value)))

  pub attribute_left : length m < p + header_size + (before_value + size) → stored (p + header_size + (before_value + size)) m ≡ add_attribute m p (attribute n x)
  unfolding add_attribute
  attribute_left short =
      let e : p + header_size + (before_value + size) ≡ p + length (attribute_bytes (attribute n x)) = end_is in
      rw (lt-ltb (length m) (p + length (attribute_bytes (attribute n x))) (omega arith), e)

  pub attribute_added : {m1 m2 m3 m4 : List ℕ} → p + header_size + (before_value + size) ≤ length m → m1 ≡ over m p (0x41 ∷ high_bytes 2 (before_value + size)) → m2 ≡ over m1 (p + attribute_name) (high_bytes 2 n) → m3 ≡ over m2 (p + attribute_labels) (label_bytes x.labels) → m4 ≡ over m3 (p + attribute_value) (value_bytes x.value)
      → stored (p + header_size + (before_value + size)) m4 ≡ add_attribute m p (attribute n x)
  unfolding add_attribute
  attribute_added {m4 = m4} room header name labels value =
      let e : p + header_size + (before_value + size) ≡ p + length (attribute_bytes (attribute n x)) = end_is in
      let bytes : m4 ≡ over m p (attribute_bytes (attribute n x)) = attribute_stored header name labels value in
      rw (le-ltb (length m) (p + length (attribute_bytes (attribute n x))) (omega arith), e, bytes)

-- ---- The entry's header: the ways of `finish_entry`

-- the bytes of an entry of `size` bytes in front of its attributes
head_bytes : (size type title : ℕ) → Labels → List ℕ
head_bytes size t n k = (0x40 ∷ high_bytes 2 (size - header_size)) ++ high_bytes 2 t ++ high_bytes 2 n ++ label_bytes k

head_length_lem : (size t n : ℕ) (k : Labels) → length (head_bytes size t n k) ≡ entry_attributes
unfolding head_bytes
head_length_lem size t n k = simp (length-append, high_length, label_length)

entry_parts : (size t n : ℕ) (k : Labels) (ats : List Attribute) → size ≡ entry_attributes + length (attributes_bytes ats) → entry_bytes (entry t n k ats) ≡ head_bytes size t n k ++ attributes_bytes ats
unfolding head_bytes entry_bytes field_bytes
entry_parts size t n k ats e =
    let body : length (high_bytes 2 t ++ (high_bytes 2 n ++ (label_bytes k ++ attributes_bytes ats))) ≡ size - 3 = simp (length-append, high_length, label_length) (omega arith) in
    rw body (simp append_assoc)

pub entry_size : (size t n : ℕ) (k : Labels) (ats : List Attribute) → size ≡ entry_attributes + length (attributes_bytes ats) → length (entry_bytes (entry t n k ats)) ≡ size
entry_size size t n k ats e =
    ap length (entry_parts size t n k ats e) ∙ length-append (head_bytes size t n k) (attributes_bytes ats) ∙ omega (arith, head_length_lem size t n k)

module _ (m : List ℕ) (size room t n : ℕ) (k : Labels) where
  pub too_long : length m < size → (ats : List Attribute) → Holding m size ats → stored None m ≡ put_entry m room (entry t n k ats)
  unfolding put_entry
  too_long short ats h =
      let e : length (entry_bytes (entry t n k ats)) ≡ size = entry_size size t n k ats h.grown in
      rw (e, lt-ltb (length m) size short)

  pub no_room : size ≤ length m → room < size → (ats : List Attribute) → Holding m size ats → stored None m ≡ put_entry m room (entry t n k ats)
  unfolding put_entry
  no_room fits short ats h =
      let e : length (entry_bytes (entry t n k ats)) ≡ size = entry_size size t n k ats h.grown in
      rw (e, le-ltb (length m) size fits, lt-ltb room size short)

  head_stored : {m1 m2 m3 m4 : List ℕ} → m1 ≡ over m 0 (0x40 ∷ high_bytes 2 (size - header_size)) → m2 ≡ over m1 entry_type (high_bytes 2 t) → m3 ≡ over m2 entry_title (high_bytes 2 n) → m4 ≡ over m3 entry_labels (label_bytes k)
      → m4 ≡ over m 0 (head_bytes size t n k)
  unfolding head_bytes
  head_stored {m1} {m2} {m3} {m4} p1 p2 p3 p4 =
      let h : length (0x40 ∷ high_bytes 2 (size - header_size)) ≡ 3 = omega (arith, high_length 2 (size - header_size)) in
      let one : m2 ≡ over m 0 ((0x40 ∷ high_bytes 2 (size - header_size)) ++ high_bytes 2 t) = then_store m 0 (0x40 ∷ high_bytes 2 (size - header_size)) 3 (high_bytes 2 t) p1 p2 (omega arith) in
      let h1 : length ((0x40 ∷ high_bytes 2 (size - header_size)) ++ high_bytes 2 t) ≡ 5 = simp (length-append, high_length) in
      let two : m3 ≡ over m 0 ((0x40 ∷ high_bytes 2 (size - header_size)) ++ high_bytes 2 t ++ high_bytes 2 n) =
      then_store m 0 ((0x40 ∷ high_bytes 2 (size - header_size)) ++ high_bytes 2 t) 5 (high_bytes 2 n) one p3 (omega arith) in
      let h2 : length ((0x40 ∷ high_bytes 2 (size - header_size)) ++ high_bytes 2 t ++ high_bytes 2 n) ≡ 7 = simp (length-append, high_length) in
      then_store m 0 ((0x40 ∷ high_bytes 2 (size - header_size)) ++ high_bytes 2 t ++ high_bytes 2 n) 7 (label_bytes k) two p4 (omega arith)

  -- the attributes stand after the header already
  head_joined : {m4 : List ℕ} → size ≤ length m → m4 ≡ over m 0 (head_bytes size t n k) → (ats : List Attribute) → Holding m size ats → m4 ≡ entry_bytes (entry t n k ats) ++ drop size m
  head_joined fits p ats h =
      let wide : length (head_bytes size t n k) ≡ entry_attributes = head_length_lem size t n k in
      let grown : size ≡ entry_attributes + length (attributes_bytes ats) = h.grown in
      let parts : entry_attributes + (size - entry_attributes) ≡ size = omega arith in
      let after : drop entry_attributes m ≡ attributes_bytes ats ++ drop size m =
      sym (take-append-drop (size - entry_attributes) (drop entry_attributes m)) ∙ ap (λ (l : List ℕ). l ++ drop (size - entry_attributes) (drop entry_attributes m)) (h.bytes fits)
      ∙ ap (λ (l : List ℕ). attributes_bytes ats ++ l) (drop-drop (size - entry_attributes) entry_attributes m ∙ ap (λ (j : ℕ). drop j m) parts) in
      p ∙ over_start m (head_bytes size t n k) (omega arith)
      ∙ ap (λ (j : ℕ). head_bytes size t n k ++ drop j m) wide ∙ ap (λ (l : List ℕ). head_bytes size t n k ++ l) after
      ∙ sym (append_assoc (head_bytes size t n k) (attributes_bytes ats) (drop size m)) ∙ ap (λ (l : List ℕ). l ++ drop size m) (sym (entry_parts size t n k ats grown))

  pub entry_finished : {m1 m2 m3 m4 : List ℕ} → size ≤ length m → size ≤ room → m1 ≡ over m 0 (0x40 ∷ high_bytes 2 (size - header_size)) → m2 ≡ over m1 entry_type (high_bytes 2 t) → m3 ≡ over m2 entry_title (high_bytes 2 n) → m4 ≡ over m3 entry_labels (label_bytes k)
      → (ats : List Attribute) → Holding m size ats → stored (Some size) m4 ≡ put_entry m room (entry t n k ats)
  unfolding put_entry
  entry_finished {m4 = m4} fits small p1 p2 p3 p4 ats h =
      let e : length (entry_bytes (entry t n k ats)) ≡ size = entry_size size t n k ats h.grown in
      let bytes : m4 ≡ entry_bytes (entry t n k ats) ++ drop size m = head_joined fits (head_stored p1 p2 p3 p4) ats h in
      rw (e, le-ltb (length m) size fits, le-ltb room size small, bytes)
