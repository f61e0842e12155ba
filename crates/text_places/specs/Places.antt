-- What is told of a field of the manifest that a text gives: the place of the token that brought it.
use Rattle.std.specs.Prelude.{ℕ, ◌*◌, ◌≤◌, ◌<◌, ◌≡◌, List, [], length, Option, Some, None}
use Rattle.rules.specs.Outcome.{done}
use Rattle.rules.specs.Types.{Types, check_types}
use Rattle.notation.specs.Building.{Nodes}
use Rattle.notation.specs.Lexing.{tokens}
use Rattle.notation.specs.Convert.{text_items, table_behind, manifest_fields, manifest_bytes}
use Rattle.interner.specs.Table.{strings}
use Rattle.text_places.specs.declared.places.Notes.{Notes}
use Rattle.text_places.specs.Marks.{Begins}
use Rattle.text_places.specs.Log.{text_log, log_in}
use Rattle.rules.specs.Verdicts.{no_fault}

-- a log of these bytes is enough for a text that gives these items: eight for each token that inserts bytes; 262,144 where the manifest is not too long; 524,288 for any text
pub data Roomy (types : Types) (t : List ℕ) (items : Nodes) (room : ℕ) : Type 0 where
  each_entry : 8 * length (text_log types t) ≤ room → Roomy types t items room
  short_manifest : length (manifest_bytes (tokens t) items) ≤ 65535 → 262144 ≤ room → Roomy types t items room
  any_text : 524288 ≤ room → Roomy types t items room

-- the whole text is read: its strings are in the table, and the log is that of the text if it has room for all entries
pub record NotedWhole (types : Types) (t table log : List ℕ) (count entries : ℕ) : Type 0 where
  pub table_is : strings t table count ≡ table_behind (tokens t) []
  pub few : count ≤ 1024
  pub entries_are : entries ≡ length (text_log types t)
  pub low : entries ≤ 65536
  pub log_is : 8 * entries ≤ length log → log_in log entries ≡ text_log types t

-- whatever types are built in
pub record Noted (t table log : List ℕ) (count entries : ℕ) : Type 0 where
  pub types : Types
  pub whole : NotedWhole types t table log count entries

unfoldable pub TextNoted : (types : Types) (t : List ℕ) → Option Notes → (table log : List ℕ) → Type 0
TextNoted types t (Some n) table log = NotedWhole types t table log n.count n.entries
TextNoted types t None table log = (items : Nodes) → text_items types (tokens t) ≡ done items → ⊥

-- of a text that is not too long and gives items, with a log that is enough: the place that the field at an offset of the manifest came with. The table of
-- strings came with no token, which is told as place 0. In all other cases any place may be told
pub record PlaceTold (types : Types) (t : List ℕ) (offset room told : ℕ) : Type 0 where
  pub low : told < 65536
  pub right : length t ≤ 65535 → (items : Nodes) → text_items types (tokens t) ≡ done items → Roomy types t items room → (place : ℕ) → Begins (manifest_fields (table_behind (tokens t) []) items) offset place → told ≡ place

-- the same, where a list of types may be at fault: then the text gives no manifest
pub record PlaceGiven (types : Types) (t : List ℕ) (offset room told : ℕ) : Type 0 where
  pub low : told < 65536
  pub right : check_types types ≡ no_fault → PlaceTold types t offset room told
