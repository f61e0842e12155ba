-- What a program prints that compiles a manifest, asks for line after line until End, and then for the last line, or for the line of the refusal:
-- the definition's text. Assumes nothing.
use mathlib.Core.Path.{◌≡◌, refl, sym, ap, subst⁻¹, ◌∙◌}
use mathlib.Core.Bool.{◌||◌}
use mathlib.Core.List.{List, [], ◌∷◌, ◌++◌}
use Prim.Native.Nat.{ℕ, suc, ◌+◌, ◌*◌, ◌≤◌, ◌<◌}
use native.Mathlib.Omega.{arith}
use borrow.Author.Tests.{ltb-false}
use lib.Dec.{eqb, ltb}
use lib.ListN.{length, get_or, take}
use lib.Seq.{take-append_seam}
use Rattle.values.specs.declared.Reason.{Reason}
use Rattle.values.specs.Numbers.{number_of}
use Rattle.values.proofs.Reasons.{number_range}
use Rattle.rules.specs.Bytes.{two}
use Rattle.rules.specs.Check.{check, string_places}
use Rattle.rules.specs.Read.{manifest_of}
use Rattle.rules.specs.Outcome.{Outcome, refused, done}
use Rattle.rules.specs.State.{State}
use Rattle.rules.specs.Catalog.{catalog_bytes, shown_all, read_catalog}
use Rattle.rules.specs.Types.{the_eight}
use Rattle.rules.specs.Compile.{checked, final_state, entries_in_order, Compiled, compiled_from, compiled, output_of}
use Rattle.rules.specs.EditRule.{IsBytes}
use Rattle.rules.specs.Schedule.{entry_lines, steps_line, refusal_line, text_of}
use Rattle.rules.proofs.Lists.{Each, none_left, each_apply, either_right}
use Rattle.rules.proofs.Outcome.{All, all_refused, all_done, all_bind, all_any, all_get, all_passed}
use Rattle.rules.proofs.Laws.{final_sound, onto_each, catalog_within}
use Rattle.rules.proofs.ReadBack.{FitsEntry, read_back, shown_bytes, shown_fit}
use Rattle.syntax.specs.Strings.{texts_at, string_texts, indexed, Indexed}
use Rattle.syntax.proofs.StringsRead.{Short, short_strings, strings_read, table_holds}
use Rattle.schedule.specs.Strings.{places_from, strings_by}
use Rattle.schedule.specs.Subjects.{start}
use Rattle.schedule.specs.Lines.{Prints}
use Rattle.schedule.proofs.Sizes.{refusal_line_short}
use Rattle.schedule.proofs.Printing.{catalog_prints}
use Rattle.std.specs.Prelude.{Ok, Err}
use Rattle.rules.specs.Verdicts.{Verdict, no_fault}

-- ---- The strings by an index

same_places : (index ps : List ℕ) (n : ℕ) → ((j : ℕ) → j < length ps → two index (2 * (n + j)) ≡ get_or ps j 0) → places_from index (length ps) n ≡ ps
unfolding places_from
same_places index [] n at = refl
same_places index (p ∷ ps) n at =
    let here : n + 0 ≡ n = omega arith in
    let first : two index (2 * n) ≡ p = rw here at (at 0 (omega arith)) in
    let rest : places_from index (length ps) (suc n) ≡ ps =
    same_places index ps (suc n) (λ j h. let there : suc n + j ≡ n + suc j = omega arith in rw there (at (suc j) (omega arith))) in
    rw (first, rest)

-- those of an index that has the place of each string
pub strings_indexed : (m index : List ℕ) (strings : ℕ) → Indexed m index strings → strings_by m index strings ≡ string_texts m
unfolding strings_by string_texts
strings_indexed m index strings i =
    let count = i.count in
    let places : places_from index (length (string_places m)) 0 ≡ string_places m =
    same_places index (string_places m) 0 (λ j h. let there : 0 + j ≡ j = omega arith in rw there (i.place j (omega arith))) in
    ap (λ (k : ℕ). texts_at m (places_from index k 0)) count ∙ ap (texts_at m) places

-- those of the index that `index_strings` leaves in a table with room for 1,024 places
pub index_right : (m table : List ℕ) → check m ≡ no_fault → length m ≤ 65535 → 2048 ≤ length table → strings_by m (indexed m table) (length (string_places m)) ≡ (manifest_of m).strings
index_right m table w short room = strings_indexed m (indexed m table) (length (string_places m)) (table_holds m table w short room) ∙ sym (strings_read m w)

-- ---- The line of a refusal is short

-- its place has 16 bits
pub refusal_short : (r : Reason) (p : ℕ) → p < 65536 → length (refusal_line (number_of r) p) ≤ 2048
refusal_short r p h = refusal_line_short (number_of r) p (omega (arith, number_range r)) (omega arith)

-- ---- What is accepted was checked

checked_sound : (v : Verdict) → All (λ (u : Unit {0}). v ≡ no_fault) (checked v)
unfolding checked
checked_sound (Ok tt) = all_done refl
checked_sound (Err f) = all_refused

always : {A : Type 0} {P : Type 0} (o : Outcome A) → P → All (λ (a : A). P) o
always (refused r p) h = all_refused
always (done a) h = all_done h

pub record Checked (m : List ℕ) : Type 0 where
  pub sound : check m ≡ no_fault
  pub short : length m ≤ 65535

final_checked : (m device : List ℕ) (limit output memory : ℕ) → All (λ (st : State). Checked m) (final_state the_eight m device limit output memory)
unfolding final_state
final_checked m device limit output memory =
    all_any _ λ _. all_any _ λ _. all_bind (all_passed (eqb (length m) 0 || ltb 65535 (length m)) _ _) λ _ passed. all_bind (checked_sound (check m)) λ _ sound.
    always _ (record { sound = sound; short = ltb-false 65535 (length m) (either_right (eqb (length m) 0) (ltb 65535 (length m)) passed) })

module _ (m device : List ℕ) (limit output memory : ℕ) where
  pub accepted_checked : {c : Compiled} → compiled the_eight m device limit output memory ≡ done c → Checked m
  unfolding compiled
  accepted_checked p = all_get {P = λ (c : Compiled). Checked m} (all_bind (final_checked m device limit output memory) λ st h. all_done h) p

  -- ---- The lines of an accepted compile

  -- the catalog's part of the output that a compile leaves
  pub catalog_part : (c : Compiled) → take (length c.catalog) (output_of output (done c)) ≡ c.catalog
  unfolding output_of
  catalog_part c = take-append_seam c.catalog _

  -- the entries of a catalog fit their fields, if the manifest is a byte string
  record Entered (c : Compiled) : Type 0 where
    fits : IsBytes m → Each FitsEntry (read_catalog c.catalog)
    bytes : IsBytes m → c.catalog ≡ catalog_bytes (read_catalog c.catalog)

  accepted_entered : {c : Compiled} → compiled the_eight m device limit output memory ≡ done c → length c.catalog ≤ 65535 → Entered c
  unfolding compiled compiled_from entries_in_order
  accepted_entered {c} p =
      all_get {P = λ (c : Compiled). length c.catalog ≤ 65535 → Entered c}
      (all_bind (final_sound the_eight m device limit output memory) λ st h.
      all_done λ size.
      let fits : IsBytes m → Each FitsEntry (entries_in_order st) = λ b. onto_each (each_apply h.entries b) none_left in
      let back : IsBytes m → read_catalog (catalog_bytes (entries_in_order st)) ≡ shown_all (entries_in_order st) = λ b. read_back (entries_in_order st) (fits b) (omega arith) in
      record { fits = λ b. rw (back b) (shown_fit (entries_in_order st) (fits b)); bytes = λ b. sym (shown_bytes (entries_in_order st)) ∙ ap catalog_bytes (sym (back b)) })
      p

  module _ {c : Compiled} (accepted : compiled the_eight m device limit output memory ≡ done c) (room : ℕ) (wide : 2048 ≤ room) where
    -- each line is there, up to the last entry's last one, and none is too long
    pub accepted_prints : IsBytes m → Prints (manifest_of m).strings c.catalog room start (entry_lines (manifest_of m).strings (read_catalog c.catalog))
    accepted_prints b =
        let k = accepted_checked accepted in
        let short : Each Short (manifest_of m).strings = rw (strings_read m k.sound) (short_strings m k.sound) in
        let size : length c.catalog ≤ 65535 = (catalog_within the_eight m device limit output memory accepted).0 in
        let t = accepted_entered accepted size in
        let lines : List ℕ = entry_lines (manifest_of m).strings (read_catalog c.catalog) in
        subst⁻¹ (λ (bytes : List ℕ). Prints (manifest_of m).strings bytes room start lines) (t.bytes b)
        (catalog_prints (manifest_of m).strings (read_catalog c.catalog) room short wide (t.fits b) (omega (arith, ap length (t.bytes b))))

    -- and by the index that `index_strings` leaves
    pub schedule_prints : (table : List ℕ) → 2048 ≤ length table → IsBytes m
        → Prints (strings_by m (indexed m table) (length (string_places m))) c.catalog room start (entry_lines (manifest_of m).strings (read_catalog c.catalog))
    schedule_prints table long b =
        let k = accepted_checked accepted in
        let lines : List ℕ = entry_lines (manifest_of m).strings (read_catalog c.catalog) in
        subst⁻¹ (λ (ss : List (List ℕ)). Prints ss c.catalog room start lines) (index_right m table k.sound k.short long) (accepted_prints b)

  -- ---- The text

  -- the lines and the last line are the definition's text
  pub accepted_text : {c : Compiled} → compiled the_eight m device limit output memory ≡ done c → entry_lines (manifest_of m).strings (read_catalog c.catalog) ++ steps_line c.steps ≡ text_of (manifest_of m).strings (compiled the_eight m device limit output memory)
  unfolding text_of
  accepted_text e = sym (ap (text_of (manifest_of m).strings) e)

  -- and so is the line of a refusal
  pub refusal_text : {r : Reason} {p : ℕ} → compiled the_eight m device limit output memory ≡ refused r p → refusal_line (number_of r) p ≡ text_of (manifest_of m).strings (compiled the_eight m device limit output memory)
  unfolding text_of
  refusal_text e = sym (ap (text_of (manifest_of m).strings) e)
