-- A memory whose 512 state bytes are zero, whatever its other bytes are: no cell, none in use, and the invariant holds.
use mathlib.Core.Path.{◌≡◌, refl, sym, ◌∙◌, fun_ext}
use mathlib.Core.Bool.{Bool, true, false, false≢true}
use mathlib.Core.List.{List}
use Prim.Native.Nat.{ℕ, ◌<◌}
use lib.Dec.{ltb}
use borrow.Author.Tests.{ltb-true}
use Rattle.wire.specs.Bytes.{pick, byte}
use Rattle.rules.specs.State.{no_cell}
use Rattle.cells.specs.Layout.{table, blank_slot, slot_at, slots_of}
use Rattle.cells.specs.Scopes.{scope_number, numbered}
use Rattle.cells.specs.Slots.{in_use, never_used, hit, slot_in}
use Rattle.cells.specs.Memory.{cell_at, cells_in, by_scope, used_in, cells_of, used_of, Fine}
use Rattle.cells.proofs.Search.{last_nothing, count_none}
use Rattle.cells.proofs.Cells.{free_miss, never_free}

module _ (w : List ℕ) (blank : (i : ℕ) → i < 512 → byte w i ≡ 0) where
  never : (i : ℕ) → never_used (slots_of w i) ≡ true
  unfolding slots_of table slot_at blank_slot never_used
  never i = go (ltb i 512) refl
    where
      go : (t : Bool) → ltb i 512 ≡ t → never_used (pick t (slot_at w i) blank_slot) ≡ true
      go true e = rw (blank i (ltb-true i 512 e)) refl
      go false e = refl

  no_slot : (i : ℕ) → in_use (slots_of w i) ≡ false
  no_slot i = never_free (slots_of w i) (never i)

  no_hit : (i s n : ℕ) → hit s n (slots_of w i) ≡ false
  no_hit i s n = free_miss s n (slots_of w i) (no_slot i)

  -- THE LAWS
  pub blank_cells : cells_of w ≡ λ s n. no_cell
  unfolding cells_of by_scope cells_in cell_at slot_in
  blank_cells = fun_ext (λ s. fun_ext (λ n. rw (last_nothing 512 (λ i. hit (scope_number s) n (slots_of w i)) (λ i. no_hit i (scope_number s) n)) (either (numbered s))))
    where
      either : (t : Bool) → pick t no_cell no_cell ≡ no_cell
      either true = refl
      either false = refl

  pub blank_used : used_of w ≡ 0
  unfolding used_of used_in
  blank_used = count_none 512 (λ i. in_use (slots_of w i)) (λ i l. no_slot i)

  pub blank_fine : Fine w
  blank_fine = record {
    once = λ i j s n a b h h'. absurd (false≢true (sym (no_hit i s n) ∙ h));
    small = λ i s n h. absurd (false≢true (sym (no_hit i s n) ∙ h));
    linked = λ i u. absurd (false≢true (sym (no_slot i) ∙ u));
    packed = λ i j e l. never j;
  }
