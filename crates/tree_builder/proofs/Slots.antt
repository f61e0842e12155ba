-- The slots of the fields around. Assumes nothing.
use mathlib.Core.Path.{◌≡◌, ap, ◌∙◌}
use mathlib.Core.List.{List, [], ◌∷◌}
use Prim.Native.Nat.{ℕ, suc, ◌+◌, ◌*◌, ◌≤◌, ◌<◌, max}
use native.Mathlib.Omega.{arith}
use lib.ListN.{length}
use Rattle.wire.specs.Numbers.{number, high_bytes}
use Rattle.wire.specs.Runs.{bytes_at, over}
use Rattle.wire.proofs.Laws.{stored_back, stored_outside}
use Rattle.notation.specs.Building.{tallest, Frame, frame}
use Rattle.tree_builder.specs.State.{slot_in}
use Rattle.tree_builder.specs.Shows.{Around}

-- a slot is read back
pub slot_back : (m : List ℕ) (i n : ℕ) {m' : List ℕ} → 8 * i + 8 ≤ length m → n < 18446744073709551616 → m' ≡ over m (8 * i) (high_bytes 8 n) → slot_in m' i ≡ n
unfolding slot_in
slot_back m i n room small e = ap (λ (l : List ℕ). number (bytes_at l (8 * i) 8) 0) e ∙ stored_back m (8 * i) 8 n room (omega arith)

-- those below it stay
slot_kept : (m : List ℕ) (i j n : ℕ) {m' : List ℕ} → j < i → m' ≡ over m (8 * i) (high_bytes 8 n) → slot_in m' j ≡ slot_in m j
unfolding slot_in
slot_kept m i j n below e =
    ap (λ (l : List ℕ). number (bytes_at l (8 * j) 8) 0) e ∙ ap (λ (l : List ℕ). number l 0) (stored_outside m (8 * i) 8 n (8 * j) 8 (λ k a b c d. omega arith))

module _ (table : List (List ℕ)) where
  pub around_kept : (m : List ℕ) (i n : ℕ) {m' : List ℕ} (h : ℕ) (fs : List Frame) → length fs ≤ i → m' ≡ over m (8 * i) (high_bytes 8 n) → Around table m h fs → Around table m' h fs
  unfolding Around
  around_kept m i n h [] below e a = tt
  around_kept m i n h (frame q u g js ∷ fs) below e a = (
    record { tall = a.0.tall; kept = slot_kept m i (length fs) n (omega arith) e ∙ a.0.kept; deep = a.0.deep; exact = a.0.exact; label = a.0.label },
    around_kept m i n (suc (max (tallest js) h)) fs (omega arith) e a.1,
  )

  -- what holds of a field around one of some height holds where that one is higher
  pub around_higher : (m : List ℕ) (h h' : ℕ) (fs : List Frame) → h ≤ h' → Around table m h fs → Around table m h' fs
  unfolding Around
  around_higher m h h' [] up a = tt
  around_higher m h h' (frame q u g js ∷ fs) up a =
      let exact : max a.0.tall h ≡ max (tallest js) h = a.0.exact in (
        record { tall = a.0.tall; kept = a.0.kept; deep = a.0.deep; exact = omega arith; label = a.0.label },
        around_higher m (suc (max (tallest js) h)) (suc (max (tallest js) h')) fs (omega arith) a.1,
      )
