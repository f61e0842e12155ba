-- What `convert` promises, and what its parts ask for and do.
use Rattle.std.specs.Prelude.{ℕ, ◌≤◌, ◌<◌, ◌≡◌, List, [], false, length, take}
use Rattle.std.proofs.Math.Option.{none}
use Rattle.rules.specs.EditRule.{IsBytes}
use Rattle.rules.specs.Fields.{none as fields_end, write_all}
use Rattle.rules.specs.Outcome.{done}
use Rattle.rules.specs.Types.{Types}
use Rattle.notation.specs.Lexing.{tokens}
use Rattle.notation.specs.Building.{Nodes}
use Rattle.notation.specs.Convert.{table_behind, numbered_onto, late_among, too_long, text_items, manifest_bytes, convert}
use Rattle.interner.specs.Table.{strings}
use Rattle.interner.specs.TableField.{table_bytes}
use Rattle.parser.specs.Entering.{Enterable}
use Rattle.notation.specs.Answers.{Answer}

-- the answer and all bytes lent are those of the definition
pub record Converts (types : Types) (text output_before output_after memory_before memory_after : List ℕ) (answer : Answer) : Type 0 where
  pub effect : record { answer = answer; output_after = output_after; memory_after = memory_after } ≡ convert types text (length output_before) (length memory_before)

-- what one pass over a text asks for: where bytes are written, the table has all strings of the text
pub record Passable (t out table : List ℕ) (count : ℕ) : Type 0 where
  pub short : length t ≤ 65535
  pub enterable : Enterable t table count
  pub known : 0 < length out → table_behind (tokens t) (strings t table count) ≡ strings t table count

-- a text was read whole, and no constant is late: its items, the table of its strings, and how many bytes the items take
pub record Measured (types : Types) (t table : List ℕ) (count fill : ℕ) : Type 0 where
  pub short : length t ≤ 65535
  pub items : Nodes
  pub read : text_items types (tokens t) ≡ done items
  pub early : late_among items ≡ none
  pub table_is : strings t table count ≡ table_behind (tokens t) []
  pub enterable : Enterable t table count
  pub fill_is : fill ≡ length (write_all (numbered_onto (strings t table count) items fields_end))
  pub low : fill ≤ 1000000

-- its manifest fits, and its numbers are bytes; the items come behind the table
pub record Fitting (types : Types) (t table : List ℕ) (count before : ℕ) (out : List ℕ) : Type 0 where
  pub fill : ℕ
  pub measured : Measured types t table count fill
  pub table_size : before ≡ length (table_bytes t table count)
  pub fits : too_long (manifest_bytes (tokens t) measured.items) (length out) ≡ false
  pub bytes : IsBytes (manifest_bytes (tokens t) measured.items)

-- the output begins with the manifest of the text
pub record Begins (types : Types) (t out : List ℕ) : Type 0 where
  pub manifest : (items : Nodes) → text_items types (tokens t) ≡ done items → take (length (manifest_bytes (tokens t) items)) out ≡ manifest_bytes (tokens t) items
