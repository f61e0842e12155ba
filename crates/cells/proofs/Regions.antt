-- The trail, the names and the bytes of others: a store elsewhere leaves them.
use mathlib.Core.Path.{◌≡◌, refl, sym, ap, ◌∙◌}
use mathlib.Core.Bool.{Bool}
use mathlib.Core.List.{List}
use mathlib.Core.Option.{Option}
use Prim.Native.Nat.{ℕ, ◌+◌, ◌≤◌, ◌<◌}
use native.Mathlib.Omega.{arith}
use lib.ListN.{length, drop, length-drop}
use lib.Seq.{get_or-drop, ext_get_or}
use Rattle.labels.specs.Bytes.{set_at}
use Rattle.labels.proofs.Places.{set_same}
use Rattle.wire.specs.Bytes.{byte, two}
use Rattle.wire.proofs.Laws.{same_run, two_same}
use Rattle.rules.specs.State.{DeclaredClass}
use Rattle.cells.specs.Layout.{trail_at, record_at, words_at, slots_of, trail_of, NameRecord, name_at, blank_record, records_of, rest_of, Beside, beside_slots}
use Rattle.cells.specs.Memory.{class_in, definition_in, built_in_in, Names, cells_of, used_of, classes_of, definition_of, built_in_of, names_of}
use Rattle.cells.proofs.Tables.{table_same}

-- ---- Regions whose bytes are the same

abbrev pub names : (ℕ → ℕ) → (ℕ → Bool) → Names
names d b = record { definitions = d; built_ins = b }

module _ (w w' : List ℕ) where
  pub same_set_at : (p : ℕ) → ((j : ℕ) → j < 32 → byte w' (p + j) ≡ byte w (p + j)) → set_at w' p ≡ set_at w p
  same_set_at p same = set_same w' w p p (same_run w' w p p 32 same)

  pub same_two : (p : ℕ) → ((j : ℕ) → j < 2 → byte w' (p + j) ≡ byte w (p + j)) → two w' p ≡ two w p
  same_two p same = two_same w' w p p (same_run w' w p p 2 same)

  -- all of a name's record but its chain's head
  pub same_name : (k : ℕ) → ((j : ℕ) → 2 ≤ j → j < 8 → byte w' (record_at k + j) ≡ byte w (record_at k + j)) → name_at w' k ≡ name_at w k
  unfolding name_at
  same_name k same =
      let at : (o j : ℕ) → 2 ≤ o → o + j < 8 → byte w' (record_at k + o + j) ≡ byte w (record_at k + o + j) = λ o j l h. ap (byte w') (omega arith) ∙ same (o + j) (omega arith) h ∙ ap (byte w) (omega arith) in
      rw (
        same_two (record_at k + 2) (λ j h. at 2 j (omega arith) (omega arith)),
        same 4 (omega arith) (omega arith),
        same 5 (omega arith) (omega arith),
        same_two (record_at k + 6) (λ j h. at 6 j (omega arith) (omega arith)),
      )

  pub trail_same : ((k : ℕ) → trail_at ≤ k → k < record_at 0 → byte w' k ≡ byte w k) → trail_of w' ≡ trail_of w
  unfolding trail_of
  trail_same same = same_set_at trail_at (λ j h. same (trail_at + j) (omega arith) (omega arith))

  pub records_same : ((k j : ℕ) → k < 1024 → 2 ≤ j → j < 8 → byte w' (record_at k + j) ≡ byte w (record_at k + j)) → records_of w' ≡ records_of w
  unfolding records_of
  records_same same = table_same 1024 (name_at w) (name_at w') blank_record (λ k h. same_name k (λ j l u. same k j h l u))

  pub rest_same : length w' ≡ length w → ((k : ℕ) → words_at ≤ k → byte w' k ≡ byte w k) → rest_of w' ≡ rest_of w
  unfolding rest_of
  rest_same size same =
      ext_get_or 0 (drop words_at w') (drop words_at w) (simp length-drop (rw size)) (λ i l. get_or-drop words_at w' i 0 ∙ same (words_at + i) (omega arith) ∙ sym (get_or-drop words_at w i 0))

  -- all three of them
  pub beside_same : length w' ≡ length w → ((k : ℕ) → trail_at ≤ k → k < record_at 0 → byte w' k ≡ byte w k)
      → ((k j : ℕ) → k < 1024 → 2 ≤ j → j < 8 → byte w' (record_at k + j) ≡ byte w (record_at k + j)) → ((k : ℕ) → words_at ≤ k → byte w' k ≡ byte w k) → beside_slots w' ≡ beside_slots w
  unfolding beside_slots
  beside_same size trail records rest = rw (trail_same trail, records_same records, rest_same size rest) refl

  module _ (same : beside_slots w' ≡ beside_slots w) where
    pub trail_after : trail_of w' ≡ trail_of w
    unfolding beside_slots
    trail_after = ap (λ (b : Beside). b.trail) same

    pub records_after : records_of w' ≡ records_of w
    unfolding beside_slots
    records_after = ap (λ (b : Beside). b.records) same

    pub rest_after : rest_of w' ≡ rest_of w
    unfolding beside_slots
    rest_after = ap (λ (b : Beside). b.rest) same

  -- ---- What is read off the records

  pub names_by : records_of w' ≡ records_of w → names_of w' ≡ names_of w
  unfolding names_of definition_of built_in_of
  names_by e = ap (λ (f : ℕ → NameRecord). names (λ k. definition_in (f k)) (λ k. built_in_in (f k))) e

  pub classes_by : records_of w' ≡ records_of w → classes_of w' ≡ classes_of w
  unfolding classes_of
  classes_by e = ap {B = ℕ → Option DeclaredClass} (λ (f : ℕ → NameRecord) (k : ℕ). class_in (f k)) e

  pub cells_by : slots_of w' ≡ slots_of w → cells_of w' ≡ cells_of w
  unfolding cells_of
  cells_by e = rw e

  pub used_by : slots_of w' ≡ slots_of w → used_of w' ≡ used_of w
  unfolding used_of
  used_by e = rw e
