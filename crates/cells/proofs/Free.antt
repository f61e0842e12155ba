-- Freeing a scope: the loop, the cells, and the count, for which the invariant is needed.
use Rattle.std.proofs.lemmas.Bool.{false_from_ne_true}
use mathlib.Core.Path.{◌≡◌, refl, sym, ap, ◌∙◌, fun_ext}
use mathlib.Core.Bool.{Bool, true, false, ◌&&◌, ◌||◌, false≢true}
use mathlib.Core.List.{List}
use Prim.Native.Nat.{ℕ, zero, suc, ◌+◌, ◌-◌, ◌≤◌, ◌<◌}
use native.Mathlib.Omega.{arith}
use lib.Dec.{eqb, ltb}
use lib.ListN.{length}
use borrow.Author.Tests.{eqb-true, eqb-false, eq-eqb, le-ltb, ltb-true, ltb-false}
use Rattle.wire.specs.Bytes.{pick, byte}
use Rattle.wire.specs.Numbers.{high_bytes}
use Rattle.wire.specs.Runs.{over}
use Rattle.rules.specs.State.{same_scope, Cell, no_cell, freed, count, free}
use Rattle.cells.specs.Layout.{table, Slot, slot, blank_slot, slots_of, beside_slots, put_at}
use Rattle.cells.specs.Scopes.{scope_of}
use Rattle.cells.specs.Slots.{StoresAt, hit, is_for, in_use, is_reached, never_used, of_scope, emptied, freed_slot, slot_in, slot_for, last_below, FineSlots}
use Rattle.cells.specs.Memory.{cell_at, cells_in, used_in, cells_of, used_of, state_of, Fine, Becomes}
use Rattle.cells.proofs.Tables.{put_self}
use Rattle.cells.proofs.Slots.{never_read, name_of, empty_way}
use Rattle.cells.proofs.Search.{was_last, not_last, last_nothing, tally, count_zero, count_more, count_same, count_none, count_new, count_split}
use Rattle.cells.proofs.Scopes.{cell_at_lem, by_number}
use Rattle.cells.proofs.Cells.{split_key, both, hit_used, never_free, free_miss, not_hit}
use Rattle.cells.proofs.Keep.{fine_fewer}
use Rattle.cells.proofs.Regions.{trail_after, records_after, rest_after, names_by, classes_by}
use Rattle.std.specs.Prelude.{Option, Some, None}

-- ---- At a slot

pub free_yes : (w : List ℕ) (i s : ℕ) (w' : List ℕ) {b : Bool} → i < 512 → 65536 ≤ length w → b ≡ of_scope s (slots_of w i) → b ≡ true → w' ≡ over w i (high_bytes 1 5)
    → StoresAt i (freed_slot s) w w'
unfolding freed_slot
free_yes w i s w' below room e t p = let y : of_scope s (slots_of w i) ≡ true = sym e ∙ t in rw y (empty_way w i below room p)

pub free_no : (w : List ℕ) (i s : ℕ) {b : Bool} → b ≡ of_scope s (slots_of w i) → b ≡ false → StoresAt i (freed_slot s) w w
unfolding freed_slot
free_no w i s e t = let y : of_scope s (slots_of w i) ≡ false = sym e ∙ t in (rw y (put_self i (slots_of w)), refl)

-- ---- The loop: the slots below k are freed

unfoldable pub freed_to : ℕ → ℕ → (ℕ → Slot) → ℕ → Slot
freed_to k s f = λ j. pick (ltb j k) (freed_slot s (f j)) (f j)

pub freed_none : (s : ℕ) (f : ℕ → Slot) → f ≡ freed_to 0 s f
unfolding freed_to
freed_none s f = fun_ext (λ j. simp (le-ltb j 0 (omega arith)))

pub freed_more : (i s : ℕ) (f : ℕ → Slot) {g g' : ℕ → Slot} → g ≡ freed_to i s f → g' ≡ put_at i (freed_slot s (g i)) g → g' ≡ freed_to (i + 1) s f
unfolding freed_to put_at
freed_more i s f {g} {g'} e e' = e' ∙ rw e (fun_ext (λ j. rw (le-ltb i i (omega arith)) (go j (eqb j i) refl (ltb j i) refl (ltb j (i + 1)) refl)))
  where
    go : (j : ℕ) (t : Bool) → eqb j i ≡ t → (u : Bool) → ltb j i ≡ u → (v : Bool) → ltb j (i + 1) ≡ v
        → pick t (freed_slot s (f i)) (pick u (freed_slot s (f j)) (f j)) ≡ pick v (freed_slot s (f j)) (f j)
    go j true p u q true r = rw (eqb-true j i p) refl
    go j true p u q false r = let a : j ≡ i = eqb-true j i p in let b : i + 1 ≤ j = ltb-false j (i + 1) r in absurd (omega arith)
    go j false p true q true r = refl
    go j false p true q false r = let a : j < i = ltb-true j i q in let b : i + 1 ≤ j = ltb-false j (i + 1) r in absurd (omega arith)
    go j false p false q true r = let a : i ≤ j = ltb-false j i q in let b : j < i + 1 = ltb-true j (i + 1) r in absurd (eqb-false j i p (omega arith))
    go j false p false q false r = refl

freed_slots : ℕ → (ℕ → Slot) → ℕ → Slot
freed_slots s f = λ j. freed_slot s (f j)

-- ---- The tests at a freed slot

for_scoped : (s n : ℕ) (x : Slot) → is_for 1 s n x ≡ true → of_scope s x ≡ true
unfolding is_for of_scope
for_scoped s n (slot r t a b y m) e = let c = split_key (eqb a s) (eqb b n) (eqb t 1) e in rw (c.0, c.1.1) refl

hit_scoped : (s n : ℕ) (x : Slot) → hit s n x ≡ true → of_scope s x ≡ true
hit_scoped s n x e = for_scoped s n x (both (is_reached x) (is_for 1 s n x) e).1

same_scope_lem : (s s' : ℕ) (x : Slot) → of_scope s x ≡ true → of_scope s' x ≡ true → s' ≡ s
unfolding of_scope
same_scope_lem s s' (slot r t a b y m) o o' = sym (eqb-true a s' (both (eqb t 1) (eqb a s') o').1) ∙ eqb-true a s (both (eqb t 1) (eqb a s) o).1

scope_one : (s s' n : ℕ) (x : Slot) → of_scope s x ≡ true → hit s' n x ≡ true → s' ≡ s
scope_one s s' n x o e = same_scope_lem s s' x o (hit_scoped s' n x e)

scoped_used : (s : ℕ) (x : Slot) → of_scope s x ≡ true → in_use x ≡ true
unfolding of_scope in_use
scoped_used s (slot r t a b y m) e = (both (eqb t 1) (eqb a s) e).0

emptied_free : (x : Slot) → in_use (emptied x) ≡ false
unfolding emptied in_use
emptied_free (slot r t s n c m) = refl

emptied_once : (x : Slot) → never_used (emptied x) ≡ false
unfolding emptied never_used
emptied_once (slot r t s n c m) = refl

-- a freed slot is emptied, or is not of the scope and stays
freed_cases : (P : Slot → Type 0) (s : ℕ) (x : Slot) → (of_scope s x ≡ true → P (emptied x)) → (of_scope s x ≡ false → P x) → P (freed_slot s x)
unfolding freed_slot
freed_cases P s x taken left = go (of_scope s x) taken left
  where
    go : (t : Bool) → (t ≡ true → P (emptied x)) → (t ≡ false → P x) → P (pick t (emptied x) x)
    go true taken left = taken refl
    go false taken left = left refl

unused_stays : (s : ℕ) (x : Slot) → in_use x ≡ false → freed_slot s x ≡ x
unused_stays s x u = freed_cases (λ y. y ≡ x) s x (λ o. (let t : in_use x ≡ true = scoped_used s x o in let z : ◌≡◌ {A = ℕ} 0 1 = cc in absurd (omega arith))) (λ o. refl)

-- the loop may end where no slot from i on is in use
freed_rest : (i s : ℕ) (f g : ℕ → Slot) → g ≡ freed_to i s f → ((j : ℕ) → i ≤ j → in_use (g j) ≡ false) → g ≡ freed_slots s f
unfolding freed_to freed_slots
freed_rest i s f g e free = e ∙ fun_ext (λ j. go j (ltb j i) refl (ap (λ (h : ℕ → Slot). h j) e))
  where
    go : (j : ℕ) (t : Bool) → ltb j i ≡ t → g j ≡ pick t (freed_slot s (f j)) (f j) → pick t (freed_slot s (f j)) (f j) ≡ freed_slot s (f j)
    go j true p q = refl
    go j false p q = sym (unused_stays s (f j) (sym (ap in_use q) ∙ free j (ltb-false j i p)))

no_hit : (s n : ℕ) (x : Slot) → of_scope s x ≡ false → hit s n x ≡ false
no_hit s n x o = false_from_ne_true (hit s n x) (λ h. (let t : of_scope s x ≡ true = hit_scoped s n x h in let z : ◌≡◌ {A = ℕ} 0 1 = cc in omega arith))

freed_miss : (s n : ℕ) (x : Slot) → hit s n (freed_slot s x) ≡ false
freed_miss s n x = freed_cases (λ y. hit s n y ≡ false) s x (λ o. free_miss s n (emptied x) (emptied_free x)) (λ o. no_hit s n x o)

freed_keeps : (s s' n : ℕ) (x : Slot) → (s' ≡ s → ⊥) → hit s' n (freed_slot s x) ≡ hit s' n x
freed_keeps s s' n x ne =
    freed_cases (λ y. hit s' n y ≡ hit s' n x) s x
    (λ o. free_miss s' n (emptied x) (emptied_free x) ∙ sym (false_from_ne_true (hit s' n x) (λ h. ne (scope_one s s' n x o h))))
    (λ o. refl)

freed_stays : (s s' n : ℕ) (x : Slot) → (s' ≡ s → ⊥) → hit s' n x ≡ true → freed_slot s x ≡ x
freed_stays s s' n x ne h = freed_cases (λ y. y ≡ x) s x (λ o. absurd (ne (scope_one s s' n x o h))) (λ o. refl)

freed_was : (s s' n : ℕ) (x : Slot) → hit s' n (freed_slot s x) ≡ true → hit s' n x ≡ true
freed_was s s' n x h =
    freed_cases (λ y. hit s' n y ≡ true → hit s' n x ≡ true) s x
    (λ o h. (let t = free_miss s' n (emptied x) (emptied_free x) in let z : ◌≡◌ {A = ℕ} 0 1 = cc in absurd (omega arith)))
    (λ o h. h) h

freed_linked : (s : ℕ) (x : Slot) → (in_use x ≡ true → is_reached x ≡ true) → in_use (freed_slot s x) ≡ true → is_reached (freed_slot s x) ≡ true
freed_linked s x linked =
    freed_cases (λ y. in_use y ≡ true → is_reached y ≡ true) s x (λ o u. (let z = emptied_free x in let q : ◌≡◌ {A = ℕ} 0 1 = cc in absurd (omega arith))) (λ o. linked)

freed_never : (s : ℕ) (x : Slot) → never_used (freed_slot s x) ≡ true → never_used x ≡ true
freed_never s x =
    freed_cases (λ y. never_used y ≡ true → never_used x ≡ true) s x (λ o u. absurd (false≢true (sym (emptied_once x) ∙ u))) (λ o u. u)

-- ---- The cells

module _ (s : ℕ) (f : ℕ → Slot) where
  stay : (s' n : ℕ) → (s' ≡ s → ⊥) → (r : Option ℕ) → slot_for f s' n ≡ r → cell_at (freed_slots s f) r ≡ cell_at f r
  unfolding cell_at freed_slots slot_in
  stay s' n ne (Some j) q = rw (freed_stays s s' n (f j) ne (was_last 512 (λ k. hit s' n (f k)) j q).passes) refl
  stay s' n ne None q = refl

  freed_cells : (s' n : ℕ) → cells_in (freed_slots s f) s' n ≡ freed (eqb s' s) (cells_in f s' n)
  unfolding cells_in cell_at freed_slots slot_in freed
  freed_cells s' n = go (eqb s' s) refl
    where
      go : (t : Bool) → eqb s' s ≡ t → cell_at (freed_slots s f) (slot_for (freed_slots s f) s' n) ≡ freed t (cell_at f (slot_for f s' n))
      go true p = rw (eqb-true s' s p, last_nothing 512 (λ k. hit s n (freed_slot s (f k))) (λ l. freed_miss s n (f l))) refl
      go false p =
          let ne : s' ≡ s → ⊥ = eqb-false s' s p in
          let same : ◌≡◌ {A = ℕ → Bool} (λ k. hit s' n (freed_slot s (f k))) (λ k. hit s' n (f k)) = fun_ext (λ k. freed_keeps s s' n (f k) ne) in
          ap (λ (h : ℕ → Bool). cell_at (freed_slots s f) (last_below 512 h)) same ∙ stay s' n ne (slot_for f s' n) refl

-- ---- The count: the slots of a scope are as many as the names that have a cell there

-- whether one of the k lowest numbers passes a test
any_below : ℕ → (ℕ → Bool) → Bool
any_below zero h = false
any_below (suc k) h = pick (h k) true (any_below k h)

any_hit : (k : ℕ) (h : ℕ → Bool) (j : ℕ) → j < k → h j ≡ true → any_below k h ≡ true
unfolding any_below
any_hit zero h j l e = absurd (omega arith)
any_hit (suc k) h j l e = go (eqb k j) refl (λ b. any_hit k h j b e)
  where
    either : (t : Bool) → pick t true true ≡ true
    either true = refl
    either false = refl

    go : (t : Bool) → eqb k j ≡ t → (j < k → any_below k h ≡ true) → pick (h k) true (any_below k h) ≡ true
    go true p more = let z : k ≡ j = eqb-true k j p in rw (z, e) refl
    go false p more = let ne : k ≡ j → ⊥ = eqb-false k j p in rw (more (omega arith)) (either (h k))

any_none : (k : ℕ) (h : ℕ → Bool) → ((j : ℕ) → j < k → h j ≡ false) → any_below k h ≡ false
unfolding any_below
any_none zero h e = refl
any_none (suc k) h e = rw (e k (omega arith)) (any_none k h (λ j l. e j (omega arith)))

any_more : (k : ℕ) (h : ℕ → Bool) → h k ≡ false → any_below (suc k) h ≡ any_below k h
unfolding any_below
any_more k h e = rw e refl

scope_hit : (s : ℕ) (x : Slot) → is_reached x ≡ true → of_scope s x ≡ true → hit s (name_of x) x ≡ true
unfolding of_scope is_for name_of is_reached
scope_hit s (slot r t a b y m) there e = let k = both (eqb t 1) (eqb a s) e in rw (there, eq-eqb b b refl, k.1) k.0

module _ (s : ℕ) (f : ℕ → Slot) (fine : FineSlots f) where
  -- whether one of the k lowest slots is of s and n
  seen : ℕ → ℕ → Bool
  seen k n = any_below k (λ j. hit s n (f j))

  seen_now : (k n : ℕ) → hit s n (f k) ≡ true → seen (suc k) n ≡ true
  unfolding seen
  seen_now k n e = any_hit (suc k) (λ j. hit s n (f j)) k (omega arith) e

  seen_same : (k n : ℕ) → hit s n (f k) ≡ false → seen (suc k) n ≡ seen k n
  unfolding seen
  seen_same k n e = any_more k (λ j. hit s n (f j)) e

  -- a slot's key was not there before
  not_before : (k n : ℕ) → k < 512 → hit s n (f k) ≡ true → seen k n ≡ false
  unfolding seen
  not_before k n l e = any_none k (λ j. hit s n (f j)) (λ j b. false_from_ne_true (hit s n (f j)) (λ h. (let z : j ≡ k = fine.once j k s n (omega arith) l h e in omega arith)))

  seen_none : (n : ℕ) → seen 0 n ≡ false
  unfolding seen any_below
  seen_none n = refl

  scope_count : (k : ℕ) → k ≤ 512 → count k (λ j. of_scope s (f j)) ≡ count 1024 (λ n. seen k n)
  unfolding tally
  scope_count zero l = count_zero (λ j. of_scope s (f j)) ∙ sym (count_none 1024 (λ n. seen 0 n) (λ n b. seen_none n))
  scope_count (suc k) l = count_more k (λ j. of_scope s (f j)) ∙ go (scope_count k (omega arith)) (of_scope s (f k)) refl
    where
      go : count k (λ j. of_scope s (f j)) ≡ count 1024 (λ n. seen k n) → (t : Bool) → of_scope s (f k) ≡ t → tally t (count k (λ j. of_scope s (f j))) ≡ count 1024 (λ n. seen (suc k) n)
      go before true o =
          let m = name_of (f k) in
          let e : hit s m (f k) ≡ true = scope_hit s (f k) (fine.linked k (scoped_used s (f k) o)) o in
          ap suc before
          ∙ sym (count_new 1024 (λ n. seen k n) (λ n. seen (suc k) n) m (fine.small k s m e) (not_before k m (omega arith) e) (seen_now k m e) (λ l ne. seen_same k l (not_hit s m s l (f k) e (λ a b. ne b))))
      go before false o = before ∙ sym (count_same 1024 (λ n. seen k n) (λ n. seen (suc k) n) (λ n b. seen_same k n (no_hit s n (f k) o)))

  exists_seen : (n : ℕ) → (cells_in f s n).exists ≡ seen 512 n
  unfolding cells_in seen cell_at no_cell slot_in
  exists_seen n = go (slot_for f s n) refl
    where
      go : (r : Option ℕ) → slot_for f s n ≡ r → (cell_at f r).exists ≡ any_below 512 (λ j. hit s n (f j))
      go (Some j) q =
          let h = was_last 512 (λ k. hit s n (f k)) j q in
          hit_used s n (f j) h.passes ∙ sym (any_hit 512 (λ k. hit s n (f k)) j h.below h.passes)
      go None q = sym (any_none 512 (λ k. hit s n (f k)) (λ j l. not_last 512 (λ k. hit s n (f k)) q j (omega arith)))

  used_or : (x : Slot) → in_use x ≡ (in_use (freed_slot s x) || of_scope s x)
  used_or x = freed_cases (λ y. in_use x ≡ (in_use y || of_scope s x)) s x (λ o. rw (emptied_free x, o) (scoped_used s x o)) (λ o. rw o (or_false (in_use x)))
    where
      or_false : (b : Bool) → b ≡ (b || false)
      or_false true = refl
      or_false false = refl

  used_apart : (x : Slot) → (in_use (freed_slot s x) && of_scope s x) ≡ false
  used_apart x = freed_cases (λ y. (in_use y && of_scope s x) ≡ false) s x (λ o. rw (emptied_free x) refl) (λ o. rw o (and_false (in_use x)))
    where
      and_false : (b : Bool) → (b && false) ≡ false
      and_false true = refl
      and_false false = refl

  freed_used : used_in (freed_slots s f) ≡ used_in f - count 1024 (λ n. (cells_in f s n).exists)
  unfolding used_in freed_slots
  freed_used =
      let parts = count_split 512 (λ j. in_use (freed_slot s (f j))) (λ j. of_scope s (f j)) (λ j. in_use (f j)) (λ l. used_or (f l)) (λ l. used_apart (f l)) in
      let names : count 512 (λ j. of_scope s (f j)) ≡ count 1024 (λ n. (cells_in f s n).exists) =
      scope_count 512 (omega arith) ∙ sym (count_same 1024 (λ n. seen 512 n) (λ n. (cells_in f s n).exists) (λ n l. exists_seen n)) in
      omega (arith, parts, names)

  freed_fine : FineSlots (freed_slots s f)
  unfolding freed_slots
  freed_fine = fine_fewer f (λ j. freed_slot s (f j)) (λ i s' n h. freed_was s s' n (f i) h) (λ i. freed_linked s (f i) (fine.linked i))
      (λ i j e l. (let never : never_used (f j) ≡ true = fine.packed i j (freed_never s (f i) e) l in ap never_used (unused_stays s (f j) (never_free (f j) never)) ∙ never)) fine

-- ---- The way of `free_scope`

-- it ends past the slots, or at one that was never used
pub none_past : (w : List ℕ) (j : ℕ) → 512 ≤ j → in_use (slots_of w j) ≡ false
unfolding slots_of table blank_slot in_use
none_past w j l = rw (le-ltb j 512 l) refl

pub none_after : (w w' : List ℕ) (i s : ℕ) → Fine w → i < 512 → slots_of w' ≡ freed_to i s (slots_of w) → byte w' i ≡ 0 → (j : ℕ) → i ≤ j → in_use (slots_of w' j) ≡ false
unfolding freed_to
none_after w w' i s fine below e z j l =
    let stays : (k : ℕ) → i ≤ k → slots_of w' k ≡ slots_of w k = λ k h. ap (λ (g : ℕ → Slot). g k) e ∙ rw (le-ltb k i h) refl in
    let never : never_used (slots_of w i) ≡ true = ap never_used (sym (stays i (omega arith))) ∙ never_read w' i below ∙ rw z refl in
    ap in_use (stays j l) ∙ never_free (slots_of w j) (fine.packed i j never l)

pub free_way : (w w' : List ℕ) (i s : ℕ) → Fine w → ((j : ℕ) → i ≤ j → in_use (slots_of w' j) ≡ false) → slots_of w' ≡ freed_to i s (slots_of w) → beside_slots w' ≡ beside_slots w → Becomes w w' (free (scope_of s)) (λ ns. ns)
unfolding state_of free freed cells_of used_of
free_way w w' i s fine rest e after =
    let f : ℕ → Slot = slots_of w in
    let slots : slots_of w' ≡ freed_slots s f = freed_rest i s f (slots_of w') e rest in
    let cells : cells_of w' ≡ λ t m. freed (same_scope t (scope_of s)) (cells_of w t m) =
    by_number s (cells_in f) (cells_in (slots_of w')) (λ b m x. freed b x) (λ m x. refl) (λ s' m. ap (λ (g : ℕ → Slot). cells_in g s' m) slots ∙ freed_cells s f s' m) in
    let names : count 1024 (λ n. (cells_of w (scope_of s) n).exists) ≡ count 1024 (λ n. (cells_in f s n).exists) =
    count_same 1024 (λ n. (cells_in f s n).exists) (λ n. (cells_of w (scope_of s) n).exists) (λ n l. ap (λ (x : Cell). x.exists) (cell_at_lem (cells_in f) s n)) in
    let used : used_of w' ≡ used_of w - count 1024 (λ n. (cells_of w (scope_of s) n).exists) = ap used_in slots ∙ freed_used s f fine ∙ ap (λ (k : ℕ). used_in f - k) (sym names) in
    record {
      state = λ es k r. rw (cells, used, classes_by w w' (records_after w w' after), trail_after w w' after) refl;
      names = names_by w w' (records_after w w' after);
      rest = rest_after w w' after;
      fine = λ _. rw slots (freed_fine s f fine);
    }
