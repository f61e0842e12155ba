-- The place that is told, once the text is read with the log. Assumes nothing.
use mathlib.Core.Path.{◌≡◌, sym, ap, ◌∙◌, subst}
use mathlib.Core.List.{List, []}
use Prim.Native.Nat.{ℕ, ◌-◌, ◌*◌, ◌≤◌, ◌<◌}
use native.Mathlib.Omega.{arith}
use lib.ListN.{length}
use Rattle.rules.specs.EditRule.{IsBytes}
use Rattle.rules.specs.Outcome.{done}
use Rattle.rules.specs.Types.{Types}
use Rattle.notation.specs.Building.{Nodes}
use Rattle.notation.specs.Lexing.{tokens}
use Rattle.notation.specs.Convert.{text_items, table_behind, manifest_fields}
use Rattle.notation.proofs.WrittenNames.{no_string}
use Rattle.interner.specs.Table.{listed, strings}
use Rattle.parser.specs.Reading.{Readable}
use Rattle.interner.specs.TableField.{table_bytes}
use Rattle.text_places.specs.Marks.{Begins}
use Rattle.text_places.specs.Log.{Insertion, followed, text_log, log_in}
use Rattle.text_places.specs.Places.{Roomy, each_entry, short_manifest, any_text, NotedWhole, TextNoted, PlaceTold}
use Rattle.std.specs.Prelude.{Option, Some, None}
use Rattle.text_places.specs.declared.places.Notes.{Notes}
use Rattle.text_places.proofs.InManifest.{in_table, in_items}
use Rattle.text_places.proofs.TextLeads.{items_lead, log_short}

-- no string is read yet
pub nothing_read : (t m st tb : List ℕ) → length t ≤ 65535 → 256 ≡ length m → 468 ≡ length st → 2050 ≡ length tb → Readable t [] m st tb 0
unfolding strings listed
nothing_read t m st tb short slots room table =
    record { short = short; slots = omega arith; room = omega arith; enterable = record { rising = no_string; small = omega arith; room = omega arith }; known = λ some. absurd (omega arith) }

-- nothing is promised
pub told_any : (types : Types) (t : List ℕ) (offset room : ℕ) → (length t ≤ 65535 → (items : Nodes) → text_items types (tokens t) ≡ done items → ⊥) → PlaceTold types t offset room 0
told_any types t offset room none = record { low = omega arith; right = λ short items e roomy p b. absurd (none short items e) }

-- what reading with the log answers
pub whole_told : (types : Types) {t table log : List ℕ} (r : Option Notes) (n : Notes) → r ≡ Some n → TextNoted types t r table log → NotedWhole types t table log n.count n.entries
unfolding TextNoted
whole_told types {t} {table} {log} r n e h = subst (λ (a : Option Notes). TextNoted types t a table log) e h

pub refused_told : (types : Types) {t : List ℕ} {offset room : ℕ} (table log : List ℕ) (r : Option Notes) → r ≡ None → TextNoted types t r table log → PlaceTold types t offset room 0
unfolding TextNoted
refused_told types {t} {offset} {room} table log r e h = told_any types t offset room (λ short. subst (λ (a : Option Notes). TextNoted types t a table log) e h)

pub same_room : (types : Types) {t : List ℕ} {offset told : ℕ} (m n : ℕ) → m ≡ n → PlaceTold types t offset m told → PlaceTold types t offset n told
same_room types {t} {offset} {told} m n e h = subst (λ (k : ℕ). PlaceTold types t offset k told) e h

module _ (types : Types) (t table log : List ℕ) (count entries offset n : ℕ) (w : NotedWhole types t table log count entries) (size : n ≡ length (table_bytes t table count)) where
  -- the field, in the strings that the code has
  begun : (items : Nodes) (p : ℕ) → Begins (manifest_fields (table_behind (tokens t) []) items) offset p → Begins (manifest_fields (strings t table count) items) offset p
  begun items p b = subst (λ (S : List (List ℕ)). Begins (manifest_fields S items) offset p) (sym w.table_is) b

  pub told_string : (room : ℕ) → offset < n → PlaceTold types t offset room 0
  told_string room near = record { low = omega arith; right = λ short items e roomy p b. sym (in_table (strings t table count) items offset p (begun items p b) (omega arith)) }

  pub told_item : (r : ℕ) → IsBytes t → n ≤ offset → 8 * entries ≤ length log → r ≡ followed (log_in log entries) (offset - n) → r < 65536 → PlaceTold types t offset (length log) r
  told_item r bytes far room is low =
      record {
        low = low;
        right = λ short items e roomy p b.
            let marked = in_items (strings t table count) items offset p (begun items p b) (omega arith) in
            is ∙ ap (λ (l : List Insertion). followed l (offset - n)) (w.log_is room) ∙ ap (λ (k : ℕ). followed (text_log types t) (offset - k)) size ∙ (items_lead types t bytes items e).leads _ p marked;
      }

  -- where the log is enough, all entries are in it
  room_for : IsBytes t → (items : Nodes) → text_items types (tokens t) ≡ done items → (room : ℕ) → Roomy types t items room → 8 * entries ≤ room
  room_for bytes items e room (each_entry h) = omega (arith, h, w.entries_are)
  room_for bytes items e room (short_manifest short h) = omega (arith, h, w.entries_are, log_short types t bytes items e short)
  room_for bytes items e room (any_text h) = omega (arith, h, w.low)

  pub told_crowded : IsBytes t → length log < 8 * entries → PlaceTold types t offset (length log) 0
  told_crowded bytes over = record { low = omega arith; right = λ short items e roomy p b. absurd (omega (arith, over, room_for bytes items e (length log) roomy)) }
