-- What the two passes over a text say: the first one finds a fault, a late constant or the table and the size; the second one writes the items.
-- Assumes nothing.
use mathlib.Core.Path.{◌≡◌, refl, sym, ap, ◌∙◌, subst}
use mathlib.Core.List.{List, [], ◌++◌}
use mathlib.Core.Option.{Option, none, some}
use native.Mathlib.Omega.{arith}
use lib.ListN.{length, length-append, length-take, length-drop, take, drop}
use lib.Seq.{take-append-le}
use borrow.Rule.Slice.PartMut.{put_mid, post_of}
use Prim.Native.Nat.{ℕ, ◌-◌, ◌≤◌, ◌<◌}
use Rattle.values.specs.declared.Reason.TheVariants.{OutsideNotation}
use Rattle.rules.specs.EditRule.{IsBytes}
use Rattle.rules.specs.Fields.{none as fields_end, write_all}
use Rattle.rules.specs.Outcome.{refused, done}
use Rattle.rules.specs.Types.{Types}
use Rattle.notation.specs.Lexing.{tokens}
use Rattle.notation.specs.Building.{Nodes}
use Rattle.notation.specs.Convert.{numbered_onto, late_among, text_items}
use Rattle.notation.proofs.WrittenNames.{no_string}
use Rattle.notation.proofs.LexedGood.{tokens_good}
use Rattle.notation.proofs.Outcomes.{refused_not_done}
use Rattle.notation.proofs.ConvertedSound.{text_whole}
use Rattle.interner.specs.Table.{listed, strings}
use Rattle.interner.specs.TableField.{table_bytes, at_start}
use Rattle.tree_builder.specs.Open.{late_number}
use Rattle.std.specs.Prelude.{Result, Ok, Err}
use Rattle.parser.specs.declared.text.Whole.{Whole}
use Rattle.parser.specs.Reading.{ReadWhole, ReadFault, TextRead}
use Rattle.converter.specs.Converting.{Passable, Measured, Fitting, Begins}
use Rattle.converter.proofs.Converting.{item_bytes, items_fit, table_stays, items_again, items_bytes, begins_so}
use Rattle.converter.proofs.LatePlace.{late_place}

-- ---- The first pass

-- it begins with no strings and writes nothing
pub first_passable : (t table : List ℕ) → length t ≤ 65535 → 2050 ≤ length table → Passable t [] table 0
unfolding strings listed
first_passable t table short room = record { short = short; enterable = record { rising = no_string; small = omega arith; room = room }; known = λ h. absurd (omega arith) }

module _ (types : Types) (t table₀ out table : List ℕ) (r : Result Whole ℕ) (x : TextRead types t (strings t table₀ 0) r out table) where
  module _ (p : ℕ) (e : r ≡ Err p) where
    fault_found : ReadFault types t [] p
    unfolding TextRead strings listed
    fault_found = subst (λ (q : Result Whole ℕ). TextRead types t [] q out table) e x

    pub fault_low : p < 65536
    fault_low = fault_found.low

    pub fault_first : text_items types (tokens t) ≡ refused OutsideNotation p
    unfolding text_items
    fault_first = fault_found.read

  module _ (w : Whole) (e : r ≡ Ok w) where
    abbrev late : ℕ
    late = w.late

    pub whole_found : ReadWhole types t [] out table w.count late w.fill
    unfolding TextRead strings listed
    whole_found = subst (λ (q : Result Whole ℕ). TextRead types t [] q out table) e x

    pub items_read : text_items types (tokens t) ≡ done whole_found.items
    unfolding text_items
    items_read = whole_found.read

    -- a constant is late, or none is
    pub late_found : (late ≡ 0 → ⊥) → late_among whole_found.items ≡ some (late - 1)
    unfolding late_number
    late_found some-late = go (late_among whole_found.items) whole_found.late_is
      where
        go : (o : Option ℕ) → late ≡ late_number o → o ≡ some (late - 1)
        go none i = absurd (some-late i)
        go (some p) i = let same : p ≡ late - 1 = omega arith in ap some same

    pub late_low : IsBytes t → length t ≤ 65535 → (late ≡ 0 → ⊥) → late - 1 < 65536
    late_low bytes short some-late = omega (arith, late_place types t whole_found.items (text_whole types (tokens t) whole_found.items (tokens_good t bytes) items_read).whole (late - 1) (late_found some-late))

    pub measured_so : length t ≤ 65535 → 2050 ≤ length table → late ≡ 0 → Measured types t table w.count w.fill
    unfolding late_number
    measured_so short room none_late =
        record {
          short = short;
          items = whole_found.items;
          read = items_read;
          early = go (late_among whole_found.items) whole_found.late_is;
          table_is = whole_found.table_is;
          enterable = record { rising = whole_found.rising; small = whole_found.few; room = room };
          fill_is = whole_found.fill_is;
          low = whole_found.low;
        }
      where
        go : (o : Option ℕ) → late ≡ late_number o → o ≡ none
        go none i = refl
        go (some p) i = absurd (omega arith)

-- ---- The second pass

module _ (types : Types) {t table : List ℕ} {count before : ℕ} {out : List ℕ} (f : Fitting types t table count before out) where
  done_same : {a b : Nodes} → done a ≡ done b → a ≡ b
  done_same e = cc

  pub items_written : (r : Result Whole ℕ) (part table' : List ℕ) → TextRead types t (strings t table count) r part table' → f.fill ≤ length part → take f.fill part ≡ item_bytes types f.measured
  unfolding TextRead
  items_written (Err p) part table' x room = refused_not_done (sym x.read ∙ items_again types f)
  items_written (Ok w) part table' x room =
      let measured : Measured types t table count f.fill = f.measured in
      let same_table : strings t table' w.count ≡ strings t table count = x.table_is ∙ table_stays types f in
      let same_items : x.items ≡ measured.items = done_same (sym x.read ∙ items_again types f) in
      let same : write_all (numbered_onto (strings t table' w.count) x.items fields_end) ≡ item_bytes types measured = ap (λ (T : List (List ℕ)). write_all (numbered_onto T x.items fields_end)) same_table ∙ ap (λ (ks : Nodes). write_all (numbered_onto (strings t table count) ks fields_end)) same_items in
      let size : w.fill ≡ f.fill = x.fill_is ∙ ap length same ∙ sym measured.fill_is in
      ap (λ (n : ℕ). take n part) (sym size) ∙ x.written (omega arith) (rw (sym same) at (items_bytes types f)) ∙ same

  -- so the output begins with the manifest, where the part behind the table was lent
  pub manifest_begins : (r : Result Whole ℕ) (out₁ part table' : List ℕ) → out₁ ≡ at_start (table_bytes t table count) out → TextRead types t (strings t table count) r part table' → length out₁ ≡ length out → length (put_mid before (length out₁ - before) out₁ part) ≡ length out₁ → Begins types t (put_mid before (length out₁ - before) out₁ part)
  manifest_begins r out₁ part table' e x same long =
      let rest : List ℕ = post_of before (length out₁ - before) out₁ in
      let room : f.fill ≤ length part = omega (arith, items_fit types f, same, long, length-append (take before out₁) (part ++ rest), length-append part rest, length-take before out₁, length-drop (length out₁ - before) (drop before out₁), length-drop before out₁) in
      begins_so types f (part ++ rest) e (take-append-le f.fill part rest room ∙ items_written r part table' x room)
