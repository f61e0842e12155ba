-- The lines of a catalog, one after the other, are the definition's: for entries whose numbers fit their fields, and for what a compile leaves.
-- Assumes nothing.
use mathlib.Core.Path.{◌≡◌, refl, sym, ap, ◌∙◌}
use mathlib.Core.Bool.{true}
use mathlib.Core.List.{List, [], ◌∷◌, ◌++◌, append_assoc, append-nil}
use Prim.Native.Nat.{ℕ, ◌+◌, ◌-◌, ◌≤◌, ◌<◌}
use native.Mathlib.Omega.{arith}
use borrow.Author.Tests.{le-ltb, le-leb}
use lib.ListN.{length}
use lib.Seq.{take-append_seam}
use Rattle.labels.specs.Bytes.{set_at}
use Rattle.values.specs.declared.Value.{Value}
use Rattle.values.specs.declared.Value.TheVariants.{Integer, String, Boolean}
use Rattle.wire.specs.Bytes.{byte, two, end_of}
use Rattle.wire.specs.Numbers.{high_bytes, word64}
use Rattle.wire.specs.Runs.{zeros}
use Rattle.wire.proofs.Laws.{high_length}
use Rattle.rules.specs.State.{Attribute, Entry}
use Rattle.catalog.specs.Layout.{entry_title, entry_labels, entry_attributes, attribute_value}
use Rattle.rules.specs.Catalog.{field_bytes, boolean_byte, value_bytes, attribute_bytes, attributes_bytes, entry_bytes, catalog_bytes}
use Rattle.rules.specs.Schedule.{line_start, attribute_line, attribute_lines, entry_lines_by, entry_lines}
use Rattle.rules.proofs.Lists.{Each}
use Rattle.rules.proofs.ReadBack.{FitsAttribute, FitsEntry, field_length}
use Rattle.syntax.proofs.StringsRead.{Short}
use Rattle.catalog.specs.Finding.{Stands, EntryAt, Listed}
use Rattle.catalog.specs.Making.{stored}
use Rattle.catalog.proofs.Standing.{stands_byte, stands_two, stands_within, field_end}
use Rattle.catalog.proofs.Search.{FirstListed}
use Rattle.catalog.proofs.Making.{attribute_size}
use Rattle.catalog.proofs.Entries.{entry_body_lem, after_type, after_title_lem, attribute_body_lem, after_labels, attributes_listed, labels_back, content_back, entry_first, attribute_first}
use Rattle.schedule.specs.declared.Position.{Position}
use Rattle.schedule.specs.declared.Subject.{Subject}
use Rattle.schedule.specs.Appending.{fitted}
use Rattle.schedule.specs.Subjects.{position, entry_position, start, value_right, entry_stands, attribute_stands, next_in, subject_in, subject_at, attribute_at, head_at}
use Rattle.schedule.specs.Lines.{text, line_of, with_next, line_for, next_line, Prints, ends, more}
use Rattle.schedule.proofs.Tests.{entry_end, value_tested, next_entry, next_attribute, no_attributes, an_attribute, at_end_lem, in_entry}
use Rattle.schedule.proofs.Sizes.{attribute_line_short, resource_line_short}

-- ---- A value, an attribute and an entry stand as the tests ask

-- a value's field is right, and ends with the value
record ValueStands (m : List ℕ) (p : ℕ) (v : Value) : Type 0 where
  right : value_right (byte m p) (two m (p + 1)) ≡ true
  ends : end_of m p ≡ p + length (value_bytes v)

module _ (m : List ℕ) {p : ℕ} where
  -- a field's tag and length
  field_tag : (t : ℕ) (b : List ℕ) → Stands m p (field_bytes t b) → byte m p ≡ t
  unfolding field_bytes
  field_tag t b s = stands_byte m t _ s

  field_size : (t : ℕ) (b : List ℕ) → length b < 65536 → Stands m p (field_bytes t b) → two m (p + 1) ≡ length b
  field_size t b h s = omega (arith, field_end m t b h s, field_length t b)

  right_value : (t : ℕ) (b : List ℕ) → length b < 65536 → Stands m p (field_bytes t b) → value_right t (length b) ≡ true → value_right (byte m p) (two m (p + 1)) ≡ true
  right_value t b h s right = rw (field_tag t b s, field_size t b h s) right

  value_stands : (v : Value) → Stands m p (value_bytes v) → ValueStands m p v
  unfolding value_bytes value_right
  value_stands (Integer z) s =
      let size : length (high_bytes 8 (word64 z)) ≡ 8 = high_length 8 (word64 z) in
      record { right = right_value 0x42 (high_bytes 8 (word64 z)) (omega arith) s (rw size); ends = field_end m 0x42 (high_bytes 8 (word64 z)) (omega arith) s }
  value_stands (String n) s =
      let size : length (high_bytes 2 n) ≡ 2 = high_length 2 n in
      record { right = right_value 0x43 (high_bytes 2 n) (omega arith) s (rw size); ends = field_end m 0x43 (high_bytes 2 n) (omega arith) s }
  value_stands (Boolean b) s = record { right = right_value 0x44 (boolean_byte b ∷ []) (omega arith) s refl; ends = field_end m 0x44 (boolean_byte b ∷ []) (omega arith) s }

module _ (m : List ℕ) {q end : ℕ} (a : Attribute) (ats : List Attribute) (f : FirstListed attribute_bytes FitsAttribute attributes_bytes m q end a ats) where
  attribute_ends : end_of m q + length (attributes_bytes ats) ≡ end
  attribute_ends = f.others.ends

  attribute_stands_lem : attribute_stands m q end ≡ true
  unfolding attribute_bytes
  attribute_stands_lem =
      let v = value_stands m a.content.value (after_labels m a f.stands) in
      let same : end_of m (q + attribute_value) ≡ end_of m q = omega (arith, v.ends, f.ends, attribute_size a.name a.content) in
      sym (value_tested m q end refl (field_tag m 0x41 _ f.stands) refl (omega (arith, attribute_ends)) refl same refl refl refl) ∙ v.right

  attribute_back : attribute_at m q ≡ a
  unfolding attribute_at
  attribute_back =
      let name : two m (q + 3) ≡ a.name = stands_two m a.name _ f.fits.name (attribute_body_lem m a f.stands) in
      rw (name, content_back m q a f.fits f.stands)

module _ (m : List ℕ) {p end : ℕ} (e : Entry) (es : List Entry) (f : FirstListed entry_bytes FitsEntry catalog_bytes m p end e es) where
  entry_at : EntryAt m p e
  entry_at = record { stands = f.stands; short = f.short; fits = f.fits }

  its_attributes : Listed FitsAttribute attributes_bytes m (p + entry_attributes) (end_of m p) e.attributes
  its_attributes = attributes_listed m p e refl entry_at

  entry_within : end_of m p ≤ length m
  entry_within = omega (arith, f.ends, its_attributes.ends, stands_within m (entry_bytes e) (omega (arith, f.ends)) f.stands)

  entry_stands_lem : entry_stands m p ≡ true
  unfolding entry_bytes
  entry_stands_lem =
      sym (entry_end m p refl (field_tag m 0x40 _ f.stands) refl (omega (arith, its_attributes.ends)) refl) ∙ le-leb (end_of m p) (length m) entry_within

  entry_type_lem : two m (p + 3) ≡ e.type
  entry_type_lem = stands_two m e.type _ f.fits.type (entry_body_lem m e f.stands)

  entry_title_lem : two m (p + entry_title) ≡ e.title
  entry_title_lem = stands_two m e.title _ f.fits.title (after_type m e f.stands)

  entry_labels_lem : set_at m (p + entry_labels) ≡ e.labels
  entry_labels_lem = labels_back m (p + entry_labels) e.labels _ f.fits.labels (after_title_lem m e f.stands)

  -- what a line says of it
  attribute_text : (ss : List (List ℕ)) (a : Attribute) → attribute_line ss (head_at m p) a ≡ attribute_line ss e a
  unfolding attribute_line line_start head_at
  attribute_text ss a = rw (entry_type_lem, entry_title_lem)

  resource_text : (ss : List (List ℕ)) → entry_lines_by ss (head_at m p) [] ≡ entry_lines_by ss e []
  unfolding entry_lines_by line_start head_at
  resource_text ss = rw (entry_type_lem, entry_title_lem, entry_labels_lem)

-- ---- Line after line

module _ (ss : List (List ℕ)) (m : List ℕ) (room : ℕ) where
  -- a line that fits, and what follows
  shown : (t : List ℕ) {at next : Position} {rest : List ℕ} → length t ≤ room → next_line ss m at room ≡ with_next next (fitted t room) → Prints ss m room next rest → Prints ss m room at (t ++ rest)
  unfolding with_next fitted line_of
  shown t {at} {next} h e p =
      let line : next_line ss m at room ≡ stored (text (length t) next) (t ++ zeros (room - length t)) = e ∙ rw (le-ltb room (length t) h) in
      rw (take-append_seam t (zeros (room - length t))) at (more line p)

  module _ (short : Each Short ss) (wide : 2048 ≤ room) (size : length m ≤ 65535) where
    module _ {p end : ℕ} (e : Entry) (es : List Entry) (f : FirstListed entry_bytes FitsEntry catalog_bytes m p end e es) where
      -- what stands in the entry stands in the catalog
      in_catalog : (q : ℕ) {s : Subject} → s ≡ subject_in m p q (end_of m p) → subject_at m (position p q) ≡ s
      in_catalog q is = sym (in_entry m (position p q) size (omega (arith, entry_within m e es f)) (sym (entry_stands_lem m e es f)) refl refl is)

      -- the line of one attribute, then those after it
      attribute_print : (q : ℕ) (a : Attribute) (ats : List Attribute) {next : Position} {rest : List ℕ} → p + entry_attributes ≤ q → FirstListed attribute_bytes FitsAttribute attributes_bytes m q (end_of m p) a ats → next ≡ next_in p (end_of m q) (end_of m p) → Prints ss m room next rest → Prints ss m room (position p q) (attribute_line ss e a ++ rest)
      unfolding next_line line_for
      attribute_print q a ats {next} after g n rest =
          let is = an_attribute m p q (end_of m p) (omega (arith, attribute_ends m a ats g)) after (sym (attribute_stands_lem m a ats g)) refl refl n in
          let text : attribute_line ss (head_at m p) (attribute_at m q) ≡ attribute_line ss e a = ap (attribute_line ss (head_at m p)) (attribute_back m a ats g) ∙ attribute_text m e es f ss a in
          shown (attribute_line ss e a) (omega (arith, attribute_line_short short e a g.fits.content.value)) (ap (line_for ss m (position p q) room) (in_catalog q is) ∙ ap (λ (t : List ℕ). with_next next (fitted t room)) text) rest

      attributes_print : (a : Attribute) (ats : List Attribute) (q : ℕ) {rest : List ℕ} → p + entry_attributes ≤ q → Listed FitsAttribute attributes_bytes m q (end_of m p) (a ∷ ats) → Prints ss m room (entry_position (end_of m p)) rest → Prints ss m room (position p q) (attribute_lines ss e (a ∷ ats) ++ rest)
      unfolding attribute_lines attributes_bytes
      attributes_print a [] q {rest} after l p' =
          let g = attribute_first m a [] l in
          let last : end_of m q ≡ end_of m p = omega (arith, attribute_ends m a [] g) in
          rw append_assoc (attribute_print q a [] after g (next_entry p (end_of m q) (end_of m p) last) p')
      attributes_print a (b ∷ ats) q {rest} after l p' =
          let g = attribute_first m a (b ∷ ats) l in
          let h = attribute_first m b ats g.others in
          let further : end_of m q < end_of m p = omega (arith, attribute_ends m b ats h) in
          rw append_assoc
          (attribute_print q a (b ∷ ats) after g (next_attribute p (end_of m q) (end_of m p) (λ e. omega arith)) (attributes_print b ats (end_of m q) (omega arith) g.others p'))

      -- an entry without attributes
      resource_print : {rest : List ℕ} → Listed FitsAttribute attributes_bytes m (p + entry_attributes) (end_of m p) [] → Prints ss m room (entry_position (end_of m p)) rest → Prints ss m room (entry_position p) (entry_lines_by ss e [] ++ rest)
      unfolding next_line line_for attributes_bytes
      resource_print l p' =
          let last : end_of m p ≡ p + entry_attributes = omega (arith, l.ends) in
          let is = no_attributes m p (p + entry_attributes) (end_of m p) (omega arith) refl (next_entry p (end_of m p) (end_of m p) refl) in
          shown (entry_lines_by ss e []) (omega (arith, resource_line_short short e)) (ap (line_for ss m (entry_position p) room) (in_catalog (p + entry_attributes) is) ∙ ap (λ (t : List ℕ). with_next (entry_position (end_of m p)) (fitted t room)) (resource_text m e es f ss)) p'

      -- the lines of the entry, then those after it
      entry_print : {rest : List ℕ} → Prints ss m room (entry_position (end_of m p)) rest → Prints ss m room (entry_position p) (entry_lines_by ss e e.attributes ++ rest)
      unfolding entry_lines_by
      entry_print {rest} p' = go e.attributes (its_attributes m e es f)
        where
          go : (ats : List Attribute) → Listed FitsAttribute attributes_bytes m (p + entry_attributes) (end_of m p) ats → Prints ss m room (entry_position p) (entry_lines_by ss e ats ++ rest)
          go [] l = resource_print l p'
          go (a ∷ ats) l = attributes_print a ats (p + entry_attributes) (omega arith) l p'

    -- the lines of the entries that are left
    entries_print : (es : List Entry) (p : ℕ) → Listed FitsEntry catalog_bytes m p (length m) es → Prints ss m room (entry_position p) (entry_lines ss es)
    unfolding entry_lines next_line line_for catalog_bytes
    entries_print [] p l = ends (ap (line_for ss m (entry_position p) room) (sym (at_end_lem m (entry_position p) size (omega (arith, l.ends)))))
    entries_print (e ∷ es) p l = let f = entry_first m e es l in entry_print e es f (entries_print es (end_of m p) f.others)

-- ---- A catalog

-- the lines of a catalog's bytes
pub catalog_prints : (ss : List (List ℕ)) (es : List Entry) (room : ℕ) → Each Short ss → 2048 ≤ room → Each FitsEntry es → length (catalog_bytes es) ≤ 65535 → Prints ss (catalog_bytes es) room start (entry_lines ss es)
unfolding start
catalog_prints ss es room short wide fits size =
    entries_print ss (catalog_bytes es) room short wide size es 0
    (record { stands = record { after = []; bytes = sym (append-nil (catalog_bytes es)) }; ends = omega arith; short = size; fits = fits })
