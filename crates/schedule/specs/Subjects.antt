-- What stands at a position of a catalog: "40 (type name, title name, 32 bytes of labels, attributes). Attribute 41: name, 32 bytes, then 42
-- integer (8 bytes), 43 string (name) or 44 boolean."
use Rattle.std.specs.Prelude.{ℕ, ◌+◌, Bool, false, ◌&&◌, List, [], eqb, ltb, leb, length}
use Rattle.wire.specs.Bytes.{pick, byte, two, end_of}
use Rattle.rules.specs.State.{Attribute, Entry}
use Rattle.rules.specs.Catalog.{no_parts}
use Rattle.labels.specs.Bytes.{set_at}
use Rattle.catalog.specs.Layout.{entry_type, entry_title, entry_labels, entry_attributes, before_attributes, attribute_name, attribute_value}
use Rattle.catalog.specs.Finding.{content_at}
use Rattle.schedule.specs.declared.Position.{Position}
use Rattle.schedule.specs.declared.Subject.{Subject}
use Rattle.schedule.specs.declared.Subject.TheVariants.{AnAttribute, NoAttributes, End, NotACatalog}

-- ---- Positions: the place of an entry, and the place in it where the next attribute begins

abbrev pub position : (entry attribute : ℕ) → Position
position p q = record { entry = p; attribute = q }

-- the first line of the entry at p: its attributes begin after what stands before them
abbrev pub entry_position : ℕ → Position
entry_position p = position p (p + entry_attributes)

-- the first line of a catalog
unfoldable pub start : Position
start = position 0 entry_attributes

-- ---- What is right of an entry and of an attribute

-- a value's field: its tag and its length
unfoldable pub value_right : (tag size : ℕ) → Bool
value_right t n = pick (eqb t 0x42) (eqb n 8) (pick (eqb t 0x43) (eqb n 2) (pick (eqb t 0x44) (eqb n 1) false))

-- a 40 stands at p, with its header, within the bytes
unfoldable pub entry_stands : List ℕ → ℕ → Bool
entry_stands m p = eqb (byte m p) 0x40 && (leb before_attributes (two m (p + 1)) && leb (end_of m p) (length m))

-- a 41 stands at q, within the entry that ends at e, and a value is all that follows its name and labels
unfoldable pub attribute_stands : List ℕ → (q e : ℕ) → Bool
attribute_stands m q e = eqb (byte m q) 0x41 && (leb (end_of m q) e && (eqb (end_of m (q + attribute_value)) (end_of m q) && value_right (byte m (q + attribute_value)) (two m (q + attribute_value + 1))))

-- ---- What a line tells of

-- after an attribute that ends at q, in the entry from p to e: the next attribute, or the next entry
unfoldable pub next_in : (p q e : ℕ) → Position
next_in p q e = pick (eqb q e) (entry_position e) (position p q)

-- in the entry from p to e, at q: an attribute; or, where its header ends the entry, that it has none
unfoldable pub subject_in : List ℕ → (p q e : ℕ) → Subject
subject_in m p q e =
    pick (ltb q e) (pick (leb (p + entry_attributes) q && attribute_stands m q e) (AnAttribute (next_in p (end_of m q) e)) NotACatalog)
    (pick (eqb q (p + entry_attributes)) (NoAttributes (entry_position e)) NotACatalog)

-- at a position of any bytes; a catalog has at most 65,535
unfoldable pub subject_at : List ℕ → Position → Subject
subject_at m at =
    pick (ltb 65535 (length m)) NotACatalog
    (pick (leb (length m) at.entry) End
    (pick (entry_stands m at.entry) (subject_in m at.entry at.attribute (end_of m at.entry)) NotACatalog))

-- ---- What is read there

-- the attribute at q
unfoldable pub attribute_at : List ℕ → ℕ → Attribute
attribute_at m q = record { name = two m (q + attribute_name); content = content_at m q }

-- the entry at p, without its attributes: a line names its type and title, and its labels if it has none
unfoldable pub head_at : List ℕ → ℕ → Entry
head_at m p = record { type = two m (p + entry_type); title = two m (p + entry_title); labels = set_at m (p + entry_labels); attributes = []; parts = λ n. no_parts }
