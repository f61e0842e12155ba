-- The bytes of others, from the words on: stores there leave the state as it is, and what is read there depends on them alone. Assumes nothing.
use mathlib.Core.Path.{◌≡◌, refl, sym, ap, ◌∙◌}
use mathlib.Core.List.{List}
use Prim.Native.Nat.{ℕ, ◌+◌, ◌-◌, ◌≤◌, ◌<◌}
use native.Mathlib.Omega.{arith}
use lib.ListN.{drop}
use lib.Seq.{drop-drop}
use Rattle.wire.specs.Bytes.{byte, two}
use Rattle.wire.specs.Runs.{bytes_at}
use Rattle.wire.proofs.Laws.{same_byte, same_rest, two_same}
use Rattle.cells.specs.Layout.{record_at, words_at, slots_of, trail_of, records_of, rest_of}
use Rattle.cells.specs.Memory.{state_of, Stays}
use Rattle.cells.proofs.Regions.{same_two, trail_same, records_same, names_by, classes_by, cells_by, used_by}
use Rattle.cells.proofs.Slots.{slots_same}

module _ (w w' : List ℕ) where
  pub others_stored : ((k : ℕ) → k < words_at → byte w' k ≡ byte w k) → Stays w w'
  unfolding state_of
  others_stored away =
      let slots : slots_of w' ≡ slots_of w = slots_same w w' (λ k l. away k (omega arith)) (λ q l. same_two w w' (record_at q) (λ j h. away (record_at q + j) (omega arith))) (λ k l u. away k (omega arith)) in
      let trail : trail_of w' ≡ trail_of w = trail_same w w' (λ k l u. away k (omega arith)) in
      let records : records_of w' ≡ records_of w = records_same w w' (λ k j l a b. away (record_at k + j) (omega arith)) in
      record {
        state = λ es k r. rw (cells_by w w' slots, used_by w w' slots, classes_by w w' records, trail) refl;
        names = names_by w w' records;
        fine = λ f. rw slots f;
      }

  others_rest : rest_of w' ≡ rest_of w → (p : ℕ) → words_at ≤ p → drop p w' ≡ drop p w
  unfolding rest_of
  others_rest same p past =
      let parts : words_at + (p - words_at) ≡ p = omega arith in
      let from : (m : List ℕ) → drop p m ≡ drop (p - words_at) (drop words_at m) = λ m. sym (drop-drop (p - words_at) words_at m ∙ ap (λ (k : ℕ). drop k m) parts) in
      from w' ∙ ap (drop (p - words_at)) same ∙ sym (from w)

  -- a byte, a run, two bytes
  pub others_byte : rest_of w' ≡ rest_of w → (p : ℕ) → words_at ≤ p → byte w' p ≡ byte w p
  others_byte same p past = same_byte w' w p p (others_rest same p past)

  pub others_run : rest_of w' ≡ rest_of w → (p : ℕ) → words_at ≤ p → (k : ℕ) → bytes_at w' p k ≡ bytes_at w p k
  others_run same p past k = same_rest w' w p p (others_rest same p past) k

  pub others_read : rest_of w' ≡ rest_of w → (p : ℕ) → words_at ≤ p → two w' p ≡ two w p
  others_read same p past = two_same w' w p p (others_run same p past 2)
