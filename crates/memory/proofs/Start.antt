-- A memory whose first bytes tell the start: no cell, no class, no name, an empty trail, no summary, an empty index.
use mathlib.Core.Path.{◌≡◌, refl, sym, ap, ◌∙◌, fun_ext}
use mathlib.Core.Bool.{Bool, true, false}
use mathlib.Core.List.{List, []}
use mathlib.Core.Option.{Option, none}
use Prim.Native.Nat.{ℕ, ◌+◌, ◌-◌, ◌*◌, ◌≤◌, ◌<◌}
use native.Mathlib.Omega.{arith}
use lib.Dec.{ltb}
use borrow.Author.Tests.{ltb-true}
use lib.ListN.{length}
use Rattle.labels.specs.Sets.{no_labels}
use Rattle.labels.proofs.Places.{set_none}
use Rattle.wire.specs.Bytes.{pick, byte, two}
use Rattle.wire.specs.Runs.{over, zeros}
use Rattle.wire.proofs.Laws.{byte_outside, over_whole, zeros_length, cleared}
use Rattle.rules.specs.State.{DeclaredClass}
use Rattle.rules.specs.Compile.{room_in, start}
use Rattle.cells.specs.Layout.{table, trail_at, record_at, words_at, summary_at, index_at, trail_of, NameRecord, name_at, blank_record, records_of}
use Rattle.cells.specs.Memory.{class_from, class_in, definition_in, built_in_in, classes_of, definition_of, built_in_of, names_of, state_of}
use Rattle.cells.proofs.Blank.{blank_cells, blank_used, blank_fine}
use Rattle.cells.proofs.Regions.{names}
use Rattle.memory.specs.Names.{no_names, Begun}
use Rattle.memory.proofs.Titles.{no_title}
use Rattle.memory.proofs.Words.{word_at}

-- no slot is in use, and what follows the slots is zero up to the records of the index
module _ (w : List ℕ) (states : (i : ℕ) → i < 512 → byte w i ≡ 0) (after : (i : ℕ) → trail_at ≤ i → i < index_at 0 → byte w i ≡ 0) where
  zero_two : (p : ℕ) → trail_at ≤ p → p + 2 ≤ index_at 0 → two w p ≡ 0
  unfolding two
  zero_two p l u = rw (after p l (omega arith), after (p + 1) (omega arith) (omega arith)) refl

  no_trail : trail_of w ≡ no_labels
  unfolding trail_of
  no_trail = set_none w trail_at (λ j h. after (trail_at + j) (omega arith) (omega arith))

  no_record : (k : ℕ) → records_of w k ≡ blank_record
  unfolding records_of table name_at blank_record
  no_record k = go (ltb k 1024) refl
    where
      go : (t : Bool) → ltb k 1024 ≡ t → pick t (name_at w k) blank_record ≡ blank_record
      go true h =
          let l : k < 1024 = ltb-true k 1024 h in
          let two : (o : ℕ) → o ≤ 6 → two w (record_at k + o) ≡ 0 = λ o u. zero_two (record_at k + o) (omega arith) (omega arith) in
          let one : (o : ℕ) → o ≤ 6 → byte w (record_at k + o) ≡ 0 = λ o u. after (record_at k + o) (omega arith) (omega arith) in
          rw (two 2 (omega arith), one 4 (omega arith), one 5 (omega arith), two 6 (omega arith)) refl
      go false h = refl

  no_records : records_of w ≡ λ k. blank_record
  no_records = fun_ext no_record

  begun_state : (limit output : ℕ) → state_of w [] limit (room_in output) ≡ start limit output
  unfolding state_of start classes_of class_in blank_record class_from
  begun_state limit output =
      let classes : classes_of w ≡ λ k. none = ap {B = ℕ → Option DeclaredClass} (λ (f : ℕ → NameRecord) (k : ℕ). class_in (f k)) no_records ∙ blank in
      rw (blank_cells w states, blank_used w states, classes, no_trail) refl
    where
      blank : ◌≡◌ {A = ℕ → Option DeclaredClass} (λ k. class_in blank_record) (λ k. none)
      blank = refl

  begun_names : names_of w ≡ no_names
  unfolding names_of no_names definition_of built_in_of definition_in built_in_in blank_record
  begun_names = ap (λ (f : ℕ → NameRecord). names (λ k. definition_in (f k)) (λ k. built_in_in (f k))) no_records

  -- THE LAW: the definition's first state
  pub begun : Begun w
  begun = record { state = begun_state; names = begun_names; title = no_title w (zero_two words_at (omega arith) (omega arith)); words = λ i l. sym (word_at w i) ∙ zero_two (words_at + 2 * i) (omega arith) (omega arith); fine = blank_fine w states; summaries = λ i l. zero_two (summary_at i) (omega arith) (omega arith); index = λ p l u. zero_two p (omega arith) u }

-- begin
pub begin_way : (w w₁ w₂ : List ℕ) → 65536 ≤ length w → w₁ ≡ over w 0 (zeros (512 - 0)) → w₂ ≡ over w₁ trail_at (zeros (index_at 0 - trail_at)) → Begun w₂
begin_way w w₁ w₂ room e e' =
    begun w₂
    (λ i l. rw (e', e) (byte_outside (over w 0 (zeros (512 - 0))) trail_at (zeros (index_at 0 - trail_at)) i (λ a b. omega arith) ∙ cleared w 0 512 i (omega arith) l))
    (λ i l u. rw e' (cleared w₁ trail_at (index_at 0 - trail_at) i l (omega arith)))

-- clear
pub clear_way : (m : List ℕ) {w' : List ℕ} → w' ≡ over m 0 (zeros (length m - 0)) → w' ≡ zeros (length m)
clear_way m {w'} e =
    let n : ℕ = length m in
    let all : length m - 0 ≡ n = omega arith in
    let whole : w' ≡ over m 0 (zeros n) = e ∙ ap (λ (k : ℕ). over m 0 (zeros k)) all in
    whole ∙ over_whole m (zeros n) (zeros_length n)
