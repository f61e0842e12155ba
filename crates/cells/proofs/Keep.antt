-- The invariant `FineSlots` is kept by what `obtain` does, and by a store that keeps a slot's key.
use Rattle.std.proofs.lemmas.Bool.{false_from_ne_true}
use mathlib.Core.Path.{◌≡◌, refl, sym, ap, ◌∙◌}
use mathlib.Core.Bool.{Bool, true, false, false≢true}
use Prim.Native.Nat.{ℕ, ◌≤◌, ◌<◌}
use native.Mathlib.Omega.{arith}
use lib.Dec.{eqb, ltb}
use borrow.Author.Tests.{eqb-true, eqb-false, ltb-true, ltb-false}
use Rattle.cells.specs.Layout.{Slot, put_at}
use Rattle.cells.specs.Slots.{hit, in_use, is_reached, never_used, claimed, slot_in, slot_for, Packed, claims, refuses, Obtains, holds, lacks, FineSlots}
use Rattle.cells.proofs.Chains.{is_or_not}
use Rattle.cells.proofs.Search.{not_last}
use Rattle.cells.proofs.Tables.{put_same, put_other}
use Rattle.cells.proofs.Cells.{Keeps, hit_key, hit_used, hit_reached, used_once, claimed_hit}
use Rattle.std.specs.Prelude.{Option, None}

-- where every key was there before, in its slot
pub fine_fewer : (f f' : ℕ → Slot) → ((i s n : ℕ) → hit s n (f' i) ≡ true → hit s n (f i) ≡ true) → ((i : ℕ) → in_use (f' i) ≡ true → is_reached (f' i) ≡ true)
    → Packed f' → FineSlots f → FineSlots f'
fine_fewer f f' was linked packed fine = record { once = λ i j s n p q h h'. fine.once i j s n p q (was i s n h) (was j s n h'); small = λ i s n h. fine.small i s n (was i s n h); linked = linked; packed = packed }

-- a slot that is reached is stored
put_linked : (f : ℕ → Slot) (i : ℕ) (x : Slot) → is_reached x ≡ true → FineSlots f → (j : ℕ) → in_use (put_at i x f j) ≡ true → is_reached (put_at i x f j) ≡ true
put_linked f i x there fine j u =
    is_or_not j i (λ e. rw e (ap is_reached (put_same i x f) ∙ there))
    (λ ne. (let other : put_at i x f j ≡ f j = put_other i x f j ne in ap is_reached other ∙ fine.linked j (sym (ap in_use other) ∙ u)))

-- a slot that was used is stored, before which all were
put_packed : (f : ℕ → Slot) (i : ℕ) (x : Slot) → never_used x ≡ false → ((k : ℕ) → k < i → never_used (f k) ≡ false) → Packed f → Packed (put_at i x f)
put_packed f i x used before packed k j e l =
    is_or_not k i (λ z. absurd (false≢true (sym used ∙ ap never_used (sym (put_same i x f)) ∙ (rw z at e)))) (λ ne. go ne (ap never_used (sym (put_other i x f k ne)) ∙ e) (ltb k i) refl)
  where
    go : (k ≡ i → ⊥) → never_used (f k) ≡ true → (t : Bool) → ltb k i ≡ t → never_used (put_at i x f j) ≡ true
    go ne old true p = absurd (false≢true (sym (before k (ltb-true k i p)) ∙ old))
    go ne old false p = let past : i ≤ k = ltb-false k i p in ap never_used (put_other i x f j (λ z. ne (omega arith))) ∙ packed k j old l

pub fine_keeps : (f : ℕ → Slot) (i : ℕ) (x : Slot) (s n : ℕ) → Keeps x (f i) → hit s n (f i) ≡ true → FineSlots f → FineSlots (put_at i x f)
fine_keeps f i x s n keeps is fine = fine_fewer f (put_at i x f) (λ j s n h. go j s n h (eqb j i) refl) (put_linked f i x (hit_reached s n x (keeps s n ∙ is)) fine)
    (put_packed f i x (used_once x (hit_used s n x (keeps s n ∙ is)))
    (λ k l. false_from_ne_true (never_used (f k)) (λ e. false≢true (sym (used_once (f i) (hit_used s n (f i) is)) ∙ fine.packed k i e (omega arith)))) fine.packed) fine
  where
    go : (j s n : ℕ) → hit s n (put_at i x f j) ≡ true → (t : Bool) → eqb j i ≡ t → hit s n (f j) ≡ true
    go j s n h true p =
        let e : j ≡ i = eqb-true j i p in
        let own : hit s n (put_at i x f i) ≡ true = rw e at h in
        rw e (sym (keeps s n) ∙ sym (ap (hit s n) (put_same i x f)) ∙ own)
    go j s n h false p = sym (ap (hit s n) (put_other i x f j (eqb-false j i p))) ∙ h

-- a new key
module _ (f : ℕ → Slot) (j : ℕ) (x : Slot) (s n : ℕ) (missing : slot_for f s n ≡ None) (is : hit s n x ≡ true) (below : n < 1024) (before : (k : ℕ) → k < j → never_used (f k) ≡ false) (fine : FineSlots f) where
  -- no old slot has it
  clash : (b s' n' : ℕ) → b < 512 → hit s' n' (put_at j x f j) ≡ true → hit s' n' (f b) ≡ true → ⊥
  unfolding slot_in
  clash b s' n' q h h' =
      let k = hit_key s n s' n' x is (sym (ap (hit s' n') (put_same j x f)) ∙ h) in
      let a : hit s n (f b) ≡ true = rw (k.0, k.1) at h' in
      let c : hit s n (f b) ≡ false = not_last 512 (λ i. hit s n (f i)) missing b (omega arith) in
      let z : ◌≡◌ {A = ℕ} 0 1 = cc in omega arith

  -- a slot other than j has the key that it had
  old_hit : (a s' n' : ℕ) → eqb a j ≡ false → hit s' n' (put_at j x f a) ≡ true → hit s' n' (f a) ≡ true
  old_hit a s' n' e h = sym (ap (hit s' n') (put_other j x f a (eqb-false a j e))) ∙ h

  small_go : (a s' n' : ℕ) → hit s' n' (put_at j x f a) ≡ true → (t : Bool) → eqb a j ≡ t → n' < 1024
  small_go a s' n' h true e = let k = hit_key s n s' n' x is (sym (ap (hit s' n') (put_same j x f)) ∙ (rw (eqb-true a j e) at h)) in omega (arith, k.1)
  small_go a s' n' h false e = fine.small a s' n' (old_hit a s' n' e h)

  once_go : (a b s' n' : ℕ) → a < 512 → b < 512 → hit s' n' (put_at j x f a) ≡ true → hit s' n' (put_at j x f b) ≡ true → (t : Bool) → eqb a j ≡ t → (u : Bool) → eqb b j ≡ u → a ≡ b
  once_go a b s' n' p q h h' true e true e' = eqb-true a j e ∙ sym (eqb-true b j e')
  once_go a b s' n' p q h h' true e false e' = absurd (clash b s' n' q (rw (eqb-true a j e) at h) (old_hit b s' n' e' h'))
  once_go a b s' n' p q h h' false e true e' = absurd (clash a s' n' p (rw (eqb-true b j e') at h') (old_hit a s' n' e h))
  once_go a b s' n' p q h h' false e false e' = fine.once a b s' n' p q (old_hit a s' n' e h) (old_hit b s' n' e' h')

  fine_new : FineSlots (put_at j x f)
  fine_new = record { once = λ a b s' n' p q h h'. once_go a b s' n' p q h h' (eqb a j) refl (eqb b j) refl; small = λ a s' n' h. small_go a s' n' h (eqb a j) refl; linked = put_linked f j x (hit_reached s n x is) fine; packed = put_packed f j x (used_once x (hit_used s n x is)) before fine.packed }

pub fine_obtained : (f : ℕ → Slot) (s n : ℕ) {q : Option ℕ} {f' : ℕ → Slot} → n < 1024 → Obtains f s n q f' → FineSlots f → FineSlots f'
fine_obtained f s n below (holds p) fine = fine
fine_obtained f s n below (lacks p (claims {i = i} free e)) fine = rw e (fine_new f i (claimed s n (f i)) s n p (claimed_hit s n (f i)) below (free.turn fine.packed) fine)
fine_obtained f s n below (lacks p (refuses all)) fine = fine
