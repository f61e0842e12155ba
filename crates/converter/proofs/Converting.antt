-- One law for each way through `convert`. Assumes nothing.
use mathlib.Core.Path.{◌≡◌, sym, ap, ◌∙◌}
use mathlib.Core.Bool.{true, false}
use mathlib.Core.List.{List, [], ◌++◌}
use mathlib.Core.Option.{Option, none, some}
use native.Mathlib.Omega.{arith}
use lib.Dec.{ltb}
use lib.ListN.{length, length-append, take, drop}
use lib.Seq.{take_at, drop_at, take-append-add}
use borrow.Author.Tests.{lt-ltb, le-ltb, ltb-false}
use Prim.Native.Nat.{ℕ, ◌+◌, ◌<◌, ◌≤◌}
use Rattle.values.specs.declared.Reason.{Reason}
use Rattle.values.specs.declared.Reason.TheVariants.{MemoryTooShort, OutsideNotation, PastLine255}
use Rattle.rules.specs.EditRule.{IsBytes}
use Rattle.rules.specs.Fields.{none as fields_end, write, write_all}
use Rattle.rules.specs.Outcome.{Outcome, refused, done, ◌>>=◌, refuse_if}
use Rattle.rules.proofs.Lists.{either_left, either_right}
use Rattle.rules.specs.Compile.{checked}
use Rattle.rules.specs.Types.{Types, check_types}
use Rattle.notation.specs.Lexing.{tokens}
use Rattle.notation.specs.Building.{Nodes, frame, build}
use Rattle.notation.specs.Grammar.{Ended, built, fault, reading}
use Rattle.notation.specs.Convert.{table_behind, crowded_at, numbered_onto, manifest_fields, read_text, late_among, refuse_at, too_long, text_items, manifest_bytes, converted, convert}
use Rattle.notation.proofs.Outcomes.{refused_not_done}
use Rattle.notation.proofs.TableStrings.{later_bytes}
use Rattle.notation.proofs.ConvertedSound.{converted_manifest}
use Rattle.interner.specs.Table.{strings}
use Rattle.interner.specs.TableField.{table_bytes, at_start, Measurable, Writable}
use Rattle.interner.proofs.Keeping.{strings_counted}
use Rattle.text_answers.specs.Leaving.{Leaves}
use Rattle.text_answers.proofs.Ending.{leaves_as}
use Rattle.converter.specs.Converting.{Converts, Passable, Measured, Fitting, Begins}
use Rattle.converter.proofs.SecondPass.{table_again, none_more}
use Rattle.rules.specs.Verdicts.{Verdict, fault_at, no_fault}
use Rattle.notation.specs.Answers.{Answer}

-- ---- The outcome, by what is found on the way

module _ (types : Types) (t : List ℕ) (output memory : ℕ) where
  pub short_memory : memory < 65536 → converted types t output memory ≡ refused MemoryTooShort 0
  unfolding converted ◌>>=◌ refuse_if
  short_memory h = rw (converted, lt-ltb memory 65536 h)

  pub fault_of_types : {v : Verdict} {r : Reason} {p : ℕ} → 65536 ≤ memory → v ≡ check_types types → v ≡ fault_at r p → converted types t output memory ≡ refused r p
  unfolding converted ◌>>=◌ refuse_if checked
  fault_of_types h e f = rw (converted, le-ltb memory 65536 h, sym e, f)

  module _ (enough : 65536 ≤ memory) (listed : check_types types ≡ no_fault) where
    pub long_text : 65535 < length t → converted types t output memory ≡ refused OutsideNotation 0
    unfolding converted ◌>>=◌ refuse_if checked
    long_text h = rw (converted, le-ltb memory 65536 enough, listed, lt-ltb 65535 (length t) h)

    module _ (short : length t ≤ 65535) where
      pub not_read : {r : Reason} {p : ℕ} → text_items types (tokens t) ≡ refused r p → converted types t output memory ≡ refused r p
      unfolding converted ◌>>=◌ refuse_if checked
      not_read h = rw (converted, le-ltb memory 65536 enough, listed, le-ltb 65535 (length t) short, h)

      module _ (items : Nodes) (read : text_items types (tokens t) ≡ done items) where
        pub late_constant : {p : ℕ} → late_among items ≡ some p → converted types t output memory ≡ refused PastLine255 p
        unfolding converted ◌>>=◌ refuse_if refuse_at checked
        late_constant h = rw (converted, le-ltb memory 65536 enough, listed, le-ltb 65535 (length t) short, read, h)

        module _ (early : late_among items ≡ none) where
          pub too_long_lem : too_long (manifest_bytes (tokens t) items) output ≡ true → converted types t output memory ≡ refused OutsideNotation 0
          unfolding converted ◌>>=◌ refuse_if refuse_at checked
          too_long_lem h = rw (converted, le-ltb memory 65536 enough, listed, le-ltb 65535 (length t) short, read, early, h)

          pub all_fits : too_long (manifest_bytes (tokens t) items) output ≡ false → converted types t output memory ≡ done (manifest_bytes (tokens t) items)
          unfolding converted ◌>>=◌ refuse_if refuse_at checked
          all_fits h = rw (converted, le-ltb memory 65536 enough, listed, le-ltb 65535 (length t) short, read, early, h)

-- ---- What a call leaves

-- bytes lent count by how many they are
module _ (types : Types) (t : List ℕ) {out out₁ out' work work₁ work' : List ℕ} {a : Answer} where
  pub converts : {o : Outcome (List ℕ)} → converted types t (length out) (length work) ≡ o → length out₁ ≡ length out → length work₁ ≡ length work → Leaves o out₁ out' work₁ work' a → Converts types t out out' work work' a
  unfolding convert
  converts e same_out same-work x =
      let left : Leaves (converted types t (length out) (length work)) out out' work work' a = leaves_as e same_out same-work x in
      record { effect = left.effect }

  pub converts_from : length out₁ ≡ length out → length work₁ ≡ length work → Leaves (converted types t (length out₁) (length work₁)) out₁ out' work₁ work' a → Converts types t out out' work work' a
  converts_from same_out same-work x = converts (λ i. converted types t (sym same_out i) (sym same-work i)) same_out same-work x

-- ---- A text that was read whole

module _ (types : Types) {t table : List ℕ} {count fill : ℕ} (x : Measured types t table count fill) where
  abbrev pub item_bytes : List ℕ
  item_bytes = write_all (numbered_onto (strings t table count) x.items fields_end)

  abbrev manifest : List ℕ
  manifest = manifest_bytes (tokens t) x.items

  manifest_parts_lem : manifest ≡ table_bytes t table count ++ item_bytes
  unfolding manifest_bytes manifest_fields write
  manifest_parts_lem = ap (λ (T : List (List ℕ)). write_all (manifest_fields T x.items)) (sym x.table_is)

  pub measurable : Measurable t table count
  measurable = record { room = omega (arith, x.enterable.small, x.enterable.room); small = omega (arith, x.enterable.small); short = x.short }

  module _ {before : ℕ} (table_size : before ≡ length (table_bytes t table count)) where
    manifest_size : length manifest ≡ before + fill
    manifest_size = omega (arith, table_size, ap length manifest_parts_lem, length-append (table_bytes t table count) item_bytes, x.fill_is)

    module _ (output : ℕ) where
      pub over_65535 : 65535 < before + fill → too_long manifest output ≡ true
      unfolding too_long
      over_65535 h = rw (too_long, lt-ltb 65535 (length manifest) (omega (arith, manifest_size)))

      pub over_output : before + fill ≤ 65535 → output < before + fill → too_long manifest output ≡ true
      unfolding too_long
      over_output l h = rw (too_long, le-ltb 65535 (length manifest) (omega (arith, manifest_size)), lt-ltb output (length manifest) (omega (arith, manifest_size)))

      pub within_both : before + fill ≤ 65535 → before + fill ≤ output → too_long manifest output ≡ false
      unfolding too_long
      within_both l h = rw (too_long, le-ltb 65535 (length manifest) (omega (arith, manifest_size)), le-ltb output (length manifest) (omega (arith, manifest_size)))

      -- an output that begins with the manifest begins with what is asked for
      pub written : (memory : ℕ) {out : List ℕ} → check_types types ≡ no_fault → 65536 ≤ memory → before + fill ≤ 65535 → before + fill ≤ output → Begins types t out → converted types t output memory ≡ done (take (before + fill) out)
      written memory {out} sound enough short room begins =
          let first : take (before + fill) out ≡ manifest = ap (λ (n : ℕ). take n out) (sym manifest_size) ∙ begins.manifest x.items x.read in
          all_fits types t output memory enough sound x.short x.items x.read x.early (within_both short room) ∙ ap done (sym first)

      -- what writing it asks for
      pub fitting : (out : List ℕ) → check_types types ≡ no_fault → IsBytes t → output ≡ length out → before + fill ≤ 65535 → before + fill ≤ output → Fitting types t table count before out
      fitting out sound bytes here short room =
          let fits : too_long manifest (length out) ≡ false = rw here at (within_both short room) in
          record {
            fill = fill;
            measured = x;
            table_size = table_size;
            fits = fits;
            bytes = (converted_manifest types t manifest (length out) 65536 bytes (all_fits types t (length out) 65536 (omega arith) sound x.short x.items x.read x.early fits)).bytes;
          }

-- ---- The table, and the items behind it

module _ (types : Types) {t table : List ℕ} {count before : ℕ} {out : List ℕ} (f : Fitting types t table count before out) where
  abbrev measured : Measured types t table count f.fill
  measured = f.measured

  -- it is short and fits
  size_low : (before + f.fill ≤ 65535) × (before + f.fill ≤ length out)
  unfolding too_long
  size_low =
      let size = manifest_size types measured f.table_size in
      let n : ℕ = length (manifest types measured) in
      (omega (arith, size, ltb-false 65535 n (either_left (ltb 65535 n) (ltb (length out) n) f.fits)), omega (arith, size, ltb-false (length out) n (either_right (ltb 65535 n) (ltb (length out) n) f.fits)))

  pub writable : Writable t table count out
  writable = record { measurable = measurable types measured; fits = omega (arith, size_low.1, f.table_size); short = omega (arith, size_low.0, f.table_size) }

  pub items_fit : before + f.fill ≤ length out
  items_fit = size_low.1

  pub table_stays : table_behind (tokens t) (strings t table count) ≡ strings t table count
  table_stays = ap (table_behind (tokens t)) measured.table_is ∙ table_again (tokens t) ∙ sym measured.table_is

  pub passable : (part : List ℕ) → Passable t part table count
  passable part = record { short = measured.short; enterable = measured.enterable; known = λ h. table_stays }

  -- the second pass finds the same items
  pub items_again : read_text (reading types (tokens t)) (crowded_at (tokens t) (strings t table count)) ≡ done measured.items
  unfolding text_items read_text
  items_again =
      let few : length (table_behind (tokens t) []) ≤ 1024 = omega (arith, ap length measured.table_is, strings_counted t table count, measured.enterable.small) in
      ap (read_text (reading types (tokens t))) (ap (crowded_at (tokens t)) measured.table_is ∙ none_more (tokens t) few) ∙ none_crowded (reading types (tokens t)) (crowded_at (tokens t) []) measured.read
    where
      none_crowded : (y : Ended) (o : Option ℕ) → read_text y o ≡ done measured.items → read_text y none ≡ done measured.items
      none_crowded (built (build b (frame p u h ks) fs)) none e = e
      none_crowded (built g) (some q) e = refused_not_done e
      none_crowded (fault p) none e = e
      none_crowded (fault p) (some q) e = refused_not_done e

  -- their numbers are bytes
  pub items_bytes : IsBytes (item_bytes types measured)
  items_bytes =
      let behind : drop before (manifest types measured) ≡ item_bytes types measured = ap (drop before) (manifest_parts_lem types measured) ∙ drop_at (table_bytes t table count) (item_bytes types measured) before (sym f.table_size) in
      rw behind at (later_bytes before (manifest types measured) f.bytes)

  -- the items stand behind the table
  pub begins_so : {out₁ : List ℕ} (part : List ℕ) → out₁ ≡ at_start (table_bytes t table count) out → take f.fill part ≡ item_bytes types measured → Begins types t (take before out₁ ++ part)
  begins_so {out₁} part e items-stand =
      let tb : List ℕ = table_bytes t table count in
      let first : take before out₁ ≡ tb = ap (take before) e ∙ take_at tb (drop (length tb) out) before (sym f.table_size) in
      let size : length (manifest types measured) ≡ length tb + f.fill = omega (arith, manifest_size types measured f.table_size, f.table_size) in
      let whole : take (length (manifest types measured)) (take before out₁ ++ part) ≡ manifest types measured =
      ap (λ (l : List ℕ). take (length (manifest types measured)) (l ++ part)) first ∙ ap (λ (n : ℕ). take n (tb ++ part)) size ∙ take-append-add tb part f.fill ∙ ap (λ (l : List ℕ). tb ++ l) items-stand ∙ sym (manifest_parts_lem types measured) in
      record { manifest = λ items e. let same : measured.items ≡ items = done_same (sym measured.read ∙ e) in rw same at whole }
    where
      done_same : {a b : Nodes} → ◌≡◌ {A = Outcome Nodes} (done a) (done b) → a ≡ b
      done_same e = cc
