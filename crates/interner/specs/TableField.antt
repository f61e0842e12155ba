-- The table of strings as a field of a manifest.
use Rattle.std.specs.Prelude.{ℕ, ◌+◌, ◌*◌, ◌≤◌, ◌≡◌, List, [], ◌++◌, length, drop}
use Rattle.wire.specs.Runs.{over}
use Rattle.rules.specs.Fields.{field, write}
use Rattle.notation.specs.Convert.{string_fields}
use Rattle.interner.specs.Table.{strings}

-- the field 01 with a field 02 for each string
abbrev pub table_bytes : (t table : List ℕ) → (count : ℕ) → List ℕ
table_bytes t table count = write (field 0 0x01 [] (string_fields (strings t table count)))

-- m with some bytes at its start
abbrev pub at_start : (bytes m : List ℕ) → List ℕ
at_start bytes m = bytes ++ drop (length bytes) m

-- what measuring the field asks for: the entries are there, and the sum of their lengths stays small
pub record Measurable (t table : List ℕ) (count : ℕ) : Type 0 where
  pub room : 2 * count ≤ length table
  pub small : count ≤ 1025
  pub short : length t ≤ 65535

-- what writing it asks for: its length fits two bytes and the output
pub record Writable (t table : List ℕ) (count : ℕ) (out : List ℕ) : Type 0 where
  pub measurable : Measurable t table count
  pub fits : length (table_bytes t table count) ≤ length out
  pub short : length (table_bytes t table count) ≤ 65535

-- the bytes stand from p up to end, and nothing else has changed
pub record Put (m m' : List ℕ) (p end : ℕ) (bytes : List ℕ) : Type 0 where
  pub ends : end ≡ p + length bytes
  pub stored : m' ≡ over m p bytes
