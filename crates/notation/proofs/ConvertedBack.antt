-- Tokens that build the tree of a sound manifest, with no string but the manifest's own, are converted to a manifest with that tree.
use Prim.Native.Nat.{ℕ, ◌≤◌}
use mathlib.Core.Path.{◌≡◌, ◌∙◌}
use mathlib.Core.Bool.{false}
use mathlib.Core.List.{List, []}
use mathlib.Core.Option.{none}
use native.Mathlib.Omega.{arith}
use lib.Dec.{ltb}
use lib.ListN.{length}
use borrow.Author.Tests.{le-ltb}
use Rattle.rules.specs.Check.{check}
use Rattle.rules.specs.EditRule.{IsBytes}
use Rattle.rules.specs.Outcome.{done, ◌>>=◌, refuse_if}
use Rattle.rules.specs.Ranges.{Each, none_left}
use Rattle.rules.specs.Read.{manifest_of}
use Rattle.rules.specs.Compile.{checked}
use Rattle.rules.specs.Types.{Types, check_types}
use Rattle.notation.specs.Tokens.{Lexeme}
use Rattle.notation.specs.Lexing.{tokens}
use Rattle.notation.specs.Building.{Nodes, frame, build}
use Rattle.notation.specs.Grammar.{built, reading}
use Rattle.notation.specs.Convert.{table_behind, crowded_at, read_text, late_among, refuse_at, too_long, text_items, manifest_bytes, converted}
use Rattle.notation.specs.Named.{named_tree}
use Rattle.notation.proofs.WrittenNames.{no_string}
use Rattle.notation.proofs.StringTable.{Among, StringsIn, table_each, table_rising}
use Rattle.notation.proofs.TableStrings.{strings_few, strings_rise}
use Rattle.notation.proofs.Unplaced.{unplaced_all}
use Rattle.notation.proofs.LexedGood.{GoodLexeme}
use Rattle.notation.proofs.ConvertedSound.{text_whole}
use Rattle.notation.proofs.TablePart.{not_crowded}
use Rattle.notation.proofs.LabelsLow.{not_late}
use Rattle.notation.proofs.NumberedBack.{written_tree}
use Rattle.notation.proofs.ConvertedLength.{no_longer}
use Rattle.rules.specs.Verdicts.{no_fault}

-- the tokens xs build the tree ks, which is that of the sound manifest m but for places, and have no string but those of m
pub record BuildsTreeOf (types : Types) (m : List ℕ) (xs : List Lexeme) (ks : Nodes) : Type 0 where
  pub bytes : IsBytes m
  pub sound : check m ≡ no_fault
  pub short : length m ≤ 65535
  pub good : Each GoodLexeme xs
  pub known : Each (StringsIn (λ s. Among s (manifest_of m).strings)) xs
  pub read : reading types xs ≡ built (build 0 (frame 0 0 [] ks) [])
  pub same : unplaced_all ks ≡ named_tree m

module _ (types : Types) {m : List ℕ} {xs : List Lexeme} {ks : Nodes} (b : BuildsTreeOf types m xs ks) where
  -- they bring no string too many
  pub crowded_not : crowded_at xs [] ≡ none
  crowded_not = not_crowded (manifest_of m).strings (strings_rise m b.bytes b.sound) (strings_few m b.bytes b.sound) b.known [] no_string none_left

  -- they are read
  pub items_read : text_items types xs ≡ done ks
  unfolding text_items read_text
  items_read = rw (b.read, crowded_not)

  -- no constant is late
  pub late_not : late_among ks ≡ none
  late_not = not_late m b.bytes ks b.same

  -- what is written is no longer than the manifest
  pub written_short : length (manifest_bytes xs ks) ≤ length m
  unfolding manifest_bytes
  written_short = no_longer m b.bytes b.sound (table_behind xs []) (table_rising xs [] no_string) (table_each [] b.known none_left) ks b.same

  -- and has its tree
  pub written_named : named_tree (manifest_bytes xs ks) ≡ named_tree m
  written_named = written_tree types (text_whole types xs ks b.good items_read) late_not ∙ b.same

-- a text of these tokens is converted, where the output has room for the manifest
pub converted_back : (types : Types) {m : List ℕ} {xs : List Lexeme} {ks : Nodes} → BuildsTreeOf types m xs ks → check_types types ≡ no_fault → (given : List ℕ) (output_length memory_length : ℕ) → length m ≤ output_length → 65536 ≤ memory_length → length given ≤ 65535 → tokens given ≡ xs →
    (converted types given output_length memory_length ≡ done (manifest_bytes xs ks)) × (named_tree (manifest_bytes xs ks) ≡ named_tree m)
unfolding converted checked ◌>>=◌ refuse_if refuse_at too_long
converted_back types {m} {xs} {ks} b listed given output_length memory_length room memory l e =
    let short = b.short in
    let written = written_short types b in
    let enough : ltb memory_length 65536 ≡ false = le-ltb memory_length 65536 memory in
    let fits : ltb 65535 (length given) ≡ false = le-ltb 65535 (length given) l in
    let whole : ltb 65535 (length (manifest_bytes xs ks)) ≡ false = le-ltb 65535 (length (manifest_bytes xs ks)) (omega arith) in
    let holds : ltb output_length (length (manifest_bytes xs ks)) ≡ false = le-ltb output_length (length (manifest_bytes xs ks)) (omega arith) in
    (rw (enough, listed, fits, e, items_read types b, late_not types b, whole, holds), written_named types b)
