-- What converting a text gives is the tree of the text in bytes, and each constant's label in it is the constant's line.
use Prim.Native.Nat.{ℕ}
use mathlib.Core.Path.{◌≡◌, subst}
use mathlib.Core.List.{List, []}
use Rattle.rules.specs.EditRule.{IsBytes}
use Rattle.rules.specs.Outcome.{done}
use Rattle.rules.specs.Types.{Types}
use Rattle.notation.specs.Lexing.{tokens}
use Rattle.notation.specs.Building.{Nodes, frame, build}
use Rattle.notation.specs.Grammar.{built, reading}
use Rattle.notation.specs.Convert.{manifest_bytes, converted}
use Rattle.notation.specs.Named.{named_tree}
use Rattle.notation.proofs.Unplaced.{unplaced_all}
use Rattle.notation.proofs.NumberedBack.{written_tree}
use Rattle.notation.proofs.LexedGood.{tokens_good}
use Rattle.notation.proofs.ConvertedSound.{text_whole, converted_steps}
use Rattle.notation.proofs.ConstantLines.{line_at, EachConstant}
use Rattle.notation.proofs.LabelsAreLines.{label_is_line}

-- the manifest m is the tree of the text given, whose constants have their lines as labels
pub record LinesAsLabels (types : Types) (given m : List ℕ) : Type 0 where
  pub items : Nodes
  pub whole : reading types (tokens given) ≡ built (build 0 (frame 0 0 [] items) [])
  pub labels : EachConstant (λ p l. l ≡ line_at given p) items
  pub written : manifest_bytes (tokens given) items ≡ m
  pub tree : named_tree m ≡ unplaced_all items

-- converting gives such a manifest
pub converted_lines : (types : Types) (given m : List ℕ) (output_length memory_length : ℕ) → IsBytes given → converted types given output_length memory_length ≡ done m → LinesAsLabels types given m
converted_lines types given m output_length memory_length b e =
    let s = converted_steps types given m output_length memory_length e in
    let w = text_whole types (tokens given) s.items (tokens_good given b) s.read in
    record { items = s.items; whole = w.whole; labels = label_is_line types given s.items w.whole; written = s.same; tree = subst (λ (n : List ℕ). named_tree n ≡ unplaced_all s.items) s.same (written_tree types w s.late) }
