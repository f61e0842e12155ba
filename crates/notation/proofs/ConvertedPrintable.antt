-- What converting a text gives can be printed, apart from its length.
use Prim.Native.Nat.{ℕ, ◌≤◌}
use mathlib.Core.Path.{◌≡◌, sym, ap, subst, ◌∙◌}
use mathlib.Core.List.{List, []}
use mathlib.Core.Option.{none, some}
use lib.ListN.{length}
use Rattle.rules.specs.EditRule.{IsBytes}
use Rattle.rules.specs.Fields.{Fields, none as fields_end, read_all, write_all, inner, first, others}
use Rattle.rules.specs.Outcome.{done}
use Rattle.rules.specs.Read.{strings_from, manifest_from, manifest_of}
use Rattle.rules.proofs.TypedBack.{unplaced_all}
use Rattle.rules.specs.Types.{Types}
use Rattle.notation.specs.Tokens.{Lexeme}
use Rattle.notation.specs.Lexing.{tokens}
use Rattle.notation.specs.Building.{Nodes}
use Rattle.notation.specs.Convert.{table_behind, manifest_fields, late_among, manifest_bytes, converted}
use Rattle.notation.specs.Printer.{past, over, over_all, unprintable_at}
use Rattle.notation.proofs.WrittenRead.{read_back}
use Rattle.notation.proofs.Formed.{AllFormed}
use Rattle.notation.proofs.StringTable.{Numbered}
use Rattle.notation.proofs.LexedGood.{tokens_good}
use Rattle.notation.proofs.ConvertedSound.{ReadWhole, items_has, manifest_complete, strings_back, text_whole, converted_steps}
use Rattle.notation.proofs.LabelsRise.{Lines, AllRise, tree_rises}
use Rattle.notation.proofs.LinesRise.{lines_rise}
use Rattle.notation.proofs.TypedNamed.{others_unplaced}
use Rattle.notation.proofs.Printable.{over_nodes}
use Rattle.notation.proofs.OverUnplaced.{table_unplaced, label_after, not_stopped, over_all_unplaced}

-- ---- The whole

-- the strings of the manifest are those of the table
strings_of_lem : (table : List (List ℕ)) (items : Nodes) → strings_from (inner (first (manifest_fields table items))) ≡ table
unfolding manifest_fields first inner
strings_of_lem table items = strings_back table

-- going over its items stops nowhere
items_passed : (types : Types) (table : List (List ℕ)) → length table ≤ 1024 → {l : ℕ} {items : Nodes} → AllRise 0 items l → AllFormed types (Numbered table) items → over_all types table (others (manifest_fields table items)) 0 ≡ past l
unfolding manifest_fields others over
items_passed types table few r all = over_nodes types table few r all fields_end

-- a text that is read whole gives a manifest that can be printed
manifest_printable : (types : Types) (xs : List Lexeme) (items : Nodes) → ReadWhole types xs items → late_among items ≡ none → Lines 0 xs → unprintable_at types (manifest_bytes xs items) ≡ none
unfolding unprintable_at manifest_of manifest_from manifest_bytes
manifest_printable types xs items r late lines =
    let table : List (List ℕ) = table_behind xs [] in
    let fields : Fields = manifest_fields table items in
    let read : Fields = read_all (write_all fields) in
    let back : unplaced_all read ≡ unplaced_all fields = read_back fields (manifest_complete types r late) in
    let strings : strings_from (inner (first read)) ≡ table = sym (table_unplaced read) ∙ ap (λ (ks : Fields). strings_from (inner (first ks))) back ∙ table_unplaced fields ∙ strings_of_lem table items in
    let rise = tree_rises types xs items lines r.whole in
    let passed : over_all types table (others fields) 0 ≡ past rise.last = items_passed types table r.few rise.rise (items_has types r late).all in
    let kept : unplaced_all (others read) ≡ unplaced_all (others fields) = sym (others_unplaced read) ∙ ap others back ∙ others_unplaced fields in
    let last : label_after (over_all types table (others read) 0) ≡ some rise.last =
    sym (over_all_unplaced types table (others read) 0) ∙ ap (λ (ks : Fields). label_after (over_all types table ks 0)) kept ∙ over_all_unplaced types table (others fields) 0 ∙ ap label_after passed in
    rw strings (not_stopped (over_all types table (others read) 0) rise.last last)

-- what converting gives can be printed, apart from its length
pub converted_printable : (types : Types) (given m : List ℕ) (output_length memory_length : ℕ) → IsBytes given → converted types given output_length memory_length ≡ done m → unprintable_at types m ≡ none
converted_printable types given m output_length memory_length b e =
    let s = converted_steps types given m output_length memory_length e in
    let w = text_whole types (tokens given) s.items (tokens_good given b) s.read in
    subst (λ (n : List ℕ). unprintable_at types n ≡ none) s.same (manifest_printable types (tokens given) s.items w s.late (lines_rise given))
