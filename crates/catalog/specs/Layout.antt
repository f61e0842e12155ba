-- Where the parts of an entry (40) and of an attribute (41) stand, from its tag on.
use Rattle.std.specs.Prelude.{ℕ, ◌-◌}

-- the tag and the length of any field
abbrev pub header_size : ℕ
header_size = 3

abbrev pub entry_type : ℕ
entry_type = 3

abbrev pub entry_title : ℕ
entry_title = 5

abbrev pub entry_labels : ℕ
entry_labels = 7

-- the first of its attributes
abbrev pub entry_attributes : ℕ
entry_attributes = 39

-- how many bytes of an entry's body stand before them
abbrev pub before_attributes : ℕ
before_attributes = entry_attributes - header_size

abbrev pub attribute_name : ℕ
attribute_name = 3

abbrev pub attribute_labels : ℕ
attribute_labels = 5

abbrev pub attribute_value : ℕ
attribute_value = 37

-- how many bytes of an attribute's body stand before its value
abbrev pub before_value : ℕ
before_value = attribute_value - header_size
