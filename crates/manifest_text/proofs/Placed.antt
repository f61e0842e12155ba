-- THE LAW of places: of a text that is converted, a field's place is told, and no other. Assumes nothing.
use Rattle.std.specs.Prelude.{Some}
use Rattle.manifest_text.specs.declared.Command.TheVariants.{Place}
use Rattle.manifest_text.specs.Commands.{BuiltIn}
use Prim.Native.Nat.{ℕ, ◌≤◌}
use mathlib.Core.Path.{◌≡◌, ap, ◌∙◌}
use mathlib.Core.List.{List, []}
use native.Mathlib.Omega.{arith}
use lib.Dec.{lit≤}
use lib.ListN.{length}
use Rattle.rules.specs.Types.{Types}
use Rattle.rules.specs.Outcome.{done}
use Rattle.notation.specs.Building.{Nodes}
use Rattle.notation.specs.Lexing.{tokens}
use Rattle.notation.specs.Convert.{text_items, table_behind, manifest_fields, manifest_bytes, converted}
use Rattle.notation.proofs.ConvertedSound.{converted_steps}
use Rattle.notation.proofs.ConvertedExactly.{converted_meant}
use Rattle.text_places.specs.Marks.{Begins}
use Rattle.text_places.specs.Places.{short_manifest}
use Rattle.manifest_text.specs.Answers.{types_given, bytes_given, place_line, Answers}

-- the manifest m is that of some items of the text, and for each of its fields that begins at the offset the answer has the place that it came with
pub record Placed (types : Types) (given m : List ℕ) (offset : ℕ) (answer : List ℕ) : Type 0 where
  pub items : Nodes
  pub read : text_items types (tokens given) ≡ done items
  pub same : manifest_bytes (tokens given) items ≡ m
  pub told : (place : ℕ) → Begins (manifest_fields (table_behind (tokens given) []) items) offset place → answer ≡ place_line place

pub converted_placed : (types : BuiltIn) (given m : List ℕ) (offset : ℕ) (answer : List ℕ) → converted (types_given types given) (bytes_given types given) 65535 65536 ≡ done m → Answers types (Some (Place offset)) given answer → Placed (types_given types given) (bytes_given types given) m offset answer
unfolding Answers
converted_placed types given m offset answer e x =
    let t = types_given types given in
    let text = bytes_given types given in
    let s = converted_steps t text m 65535 65536 e in
    let meant = converted_meant t text m 65535 65536 e in
    let short : length (manifest_bytes (tokens text) s.items) ≤ 65535 = omega (arith, ap length s.same, meant.manifest_length) in
    record {
      items = s.items;
      read = s.read;
      same = s.same;
      told = λ place begins. x.line ∙ ap place_line ((x.told.right s.listed).right meant.text_length s.items s.read (short_manifest short (lit≤ tt)) place begins);
    }
