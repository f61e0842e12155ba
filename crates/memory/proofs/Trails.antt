-- The way of `join_trail`: the trail's bytes alone change.
use mathlib.Core.Path.{◌≡◌, refl, ap, ◌∙◌}
use mathlib.Core.List.{List}
use Prim.Native.Nat.{ℕ, ◌+◌, ◌≤◌, ◌<◌}
use native.Mathlib.Omega.{arith}
use lib.ListN.{length}
use Rattle.labels.specs.declared.Labels.{Labels}
use Rattle.labels.specs.Sets.{◌∪◌, Words64}
use Rattle.labels.specs.Bytes.{label_bytes, set_at}
use Rattle.labels.proofs.Laws.{label_length}
use Rattle.labels.proofs.Places.{set_back}
use Rattle.wire.specs.Bytes.{byte}
use Rattle.wire.specs.Runs.{over}
use Rattle.wire.proofs.Laws.{over_length, byte_outside}
use Rattle.cells.specs.Layout.{trail_at, record_at, slots_of, trail_of, records_of}
use Rattle.cells.specs.Memory.{state_of, trailed, Becomes}
use Rattle.cells.proofs.Regions.{same_two, records_same, rest_same, names_by, classes_by, cells_by, used_by}
use Rattle.cells.proofs.Slots.{slots_same}

pub trail_way : (w : List ℕ) (s : Labels) (w' : List ℕ) → 65536 ≤ length w → Words64 (s ∪ set_at w trail_at) → w' ≡ over w trail_at (label_bytes (s ∪ set_at w trail_at)) → Becomes w w' (trailed s) (λ ns. ns)
unfolding state_of trailed trail_of
trail_way w s w' room words e =
    let new : Labels = s ∪ set_at w trail_at in
    let size : length (label_bytes new) ≡ 32 = label_length new in
    let away : (k : ℕ) → (trail_at ≤ k → k < trail_at + 32 → ⊥) → byte w' k ≡ byte w k = λ k out. rw e (byte_outside w trail_at (label_bytes new) k (λ a b. out a (omega arith))) in
    let slots : slots_of w' ≡ slots_of w = slots_same w w' (λ k l. away k (λ a b. omega arith)) (λ q l. same_two w w' (record_at q) (λ j h. away (record_at q + j) (λ a b. omega arith))) (λ k l u. away k (λ a b. omega arith)) in
    let records : records_of w' ≡ records_of w = records_same w w' (λ k j l a b. away (record_at k + j) (λ x y. omega arith)) in
    let trail : trail_of w' ≡ s ∪ trail_of w = rw e (set_back w trail_at new (omega arith) words) in
    record {
      state = λ es n r. rw (cells_by w w' slots, used_by w w' slots, classes_by w w' records, trail) refl;
      names = names_by w w' records;
      rest = rest_same w w' (ap length e ∙ over_length w trail_at (label_bytes new)) (λ k l. away k (λ a b. omega arith));
      fine = λ f. rw slots f;
    }
