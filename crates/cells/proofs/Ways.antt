-- One law for each way through `assign` and `join_mark`, and what cell a slot stands for.
use mathlib.Core.Path.{◌≡◌, refl, sym, ap, ◌∙◌}
use mathlib.Core.Bool.{Bool, true, false, not, ◌&&◌}
use mathlib.Core.List.{List}
use mathlib.Core.Option.{Option, some}
use Prim.Native.Nat.{ℕ, ◌+◌, ◌≤◌, ◌<◌}
use lib.Dec.{eqb}
use borrow.Author.Tests.{eqb-true, le-ltb}
use Rattle.labels.specs.declared.Labels.{Labels}
use Rattle.labels.specs.Bytes.{set_at}
use Rattle.labels.specs.Sets.{◌∪◌}
use Rattle.values.specs.declared.Labelled.{Labelled}
use Rattle.values.specs.declared.Reason.TheVariants.{AssignedAgain, CellLimit}
use Rattle.wire.specs.Bytes.{pick}
use Rattle.rules.specs.Outcome.{Outcome, refused, done, ◌>>=◌, refuse_if}
use Rattle.rules.specs.State.{Scope, same_scope, Cell, no_cell, value_into, mark_into, Entry, State, cells_for, is_some, one_if, assign}
use Rattle.cells.specs.Layout.{body_at, body_mark, Slot, slot, slots_of, beside_slots, trail_of, put_at}
use Rattle.cells.specs.Scopes.{scope_of}
use Rattle.cells.specs.Slots.{StoresAt, hit_as, is_for, is_reached, in_use, value_in, mark_in, cell_in, filled, marked, slot_in, slot_for, Obtains}
use Rattle.cells.specs.Memory.{cell_at, cells_in, used_in, cells_of, used_of, classes_of, state_of, outcome, Answers, marked_one, mark_one}
use Rattle.cells.proofs.SlotReads.{mark_read}
use Rattle.cells.proofs.Search.{was_last}
use Rattle.cells.proofs.Scopes.{cell_at_lem, by_number}
use Rattle.cells.proofs.Cells.{Keeps, Ready, used_small, ready, all_taken, none_changed, value_kept}
use Rattle.cells.proofs.Keep.{fine_keeps, fine_obtained}
use Rattle.cells.proofs.Regions.{trail_after, records_after, rest_after, names_by, classes_by, cells_by, used_by}
use Rattle.std.specs.Prelude.{Option as CodeOption, Some, None, Result, Ok, Err}
use Rattle.cells.specs.declared.NotStored.{NotStored}
use Rattle.cells.specs.declared.NotStored.TheVariants.{HasValue, NoRoom}

-- ---- The definition's operations, case by case

module _ (p : ℕ) (s : Scope) (n : ℕ) (st : State) where
  abbrev more : ℕ
  more = one_if (not (st.cells s n).exists)

  assign_no_room : (x : Labelled) → st.cells s n ≡ no_cell → st.used ≡ 512 → assign p s n x st ≡ refused CellLimit p
  unfolding assign cells_for is_some one_if ◌>>=◌ refuse_if no_cell
  assign_no_room x e u = rw (e, u) refl

  assign_again : (x : Labelled) → is_some (st.cells s n).value ≡ true → assign p s n x st ≡ refused AssignedAgain p
  unfolding assign ◌>>=◌ refuse_if
  assign_again x e = rw e

  assign_fits : (x : Labelled) → is_some (st.cells s n).value ≡ false → st.used + more ≤ 512 → assign p s n x st ≡ done (record {
    cells = λ t m. value_into (same_scope t s && eqb m n) x (st.cells t m);
    used = st.used + more;
    classes = st.classes;
    trail = st.trail;
    entries = st.entries;
    steps_left = st.steps_left;
    room = st.room;
  })
  unfolding assign cells_for ◌>>=◌ refuse_if
  assign_fits x e u = rw (e, le-ltb 512 (st.used + more) u)

  mark_no_room : (k : Labels) → st.cells s n ≡ no_cell → st.used ≡ 512 → mark_one p s n k st ≡ refused CellLimit p
  unfolding mark_one cells_for one_if ◌>>=◌ refuse_if no_cell
  mark_no_room k e u = rw (e, u) refl

  pub mark_fits : (k : Labels) → st.used + more ≤ 512 → mark_one p s n k st ≡ done (marked_one s n k st)
  unfolding mark_one cells_for ◌>>=◌ refuse_if
  mark_fits k u = rw (le-ltb 512 (st.used + more) u)

-- ---- Slots

abbrev cell_with : Option Labelled → Labels → Cell
cell_with v m = record { exists = true; value = v; mark = m }

filled_keeps : (x : Labelled) (y : Slot) → Keeps (filled x y) y
unfolding is_reached is_for filled
filled_keeps x (slot r t s n c m) s' n' = refl

filled_cell : (x : Labelled) (y : Slot) → in_use y ≡ true → ◌≡◌ {A = Cell} (cell_in (filled x y)) (cell_with (some x) (mark_in y))
unfolding filled in_use value_in mark_in
filled_cell x (slot r t s n c m) used = rw used refl

marked_keeps : (k : Labels) (y : Slot) → Keeps (marked k y) y
unfolding is_reached is_for marked
marked_keeps k (slot r t s n c m) s' n' = refl

marked_cell_lem : (k : Labels) (y : Slot) → ◌≡◌ {A = Cell} (cell_in (marked k y)) (record { exists = in_use y; value = value_in y; mark = k })
unfolding marked in_use value_in mark_in
marked_cell_lem k (slot r t s n c m) = refl

-- one cell becomes y, by a change that leaves the others
into : (c : ℕ → ℕ → Cell) (s n : ℕ) (y : Cell) (g : Bool → Cell → Cell) → ((z : Cell) → g false z ≡ z) → y ≡ g true (c s n) → (s' m : ℕ)
    → pick (eqb s' s && eqb m n) y (c s' m) ≡ g (eqb s' s && eqb m n) (c s' m)
into c s n y g keeps e s' m = go (eqb s' s) refl (eqb m n) refl
  where
    go : (a : Bool) → eqb s' s ≡ a → (b : Bool) → eqb m n ≡ b → pick (a && b) y (c s' m) ≡ g (a && b) (c s' m)
    go true p true q = rw (eqb-true s' s p, eqb-true m n q) e
    go true p false q = sym (keeps (c s' m))
    go false p b q = sym (keeps (c s' m))

-- ---- The ways

module _ (w w' : List ℕ) (s n : ℕ) {q : CodeOption ℕ} (e : Obtains (slots_of w) s n q (slots_of w') × (beside_slots w' ≡ beside_slots w)) (small : n < 1024) where
  pub ready_at : (i : ℕ) → q ≡ Some i → Ready (slots_of w) s n i (slots_of w')
  ready_at i at = ready (slots_of w) s n i e.0 at

  cell_is : cells_of w (scope_of s) n ≡ cells_in (slots_of w) s n
  unfolding cells_of
  cell_is = cell_at_lem (cells_in (slots_of w)) s n

  -- a refusal: no slot was changed, so the state stays
  refused_by_lem : (answer : Result Unit NotStored) (run : ℕ → State → Outcome State) → slots_of w' ≡ slots_of w
      → ((p : ℕ) (es : List Entry) (k r : ℕ) → run p (state_of w es k r) ≡ outcome answer p (state_of w' es k r)) → Answers w w' answer run
  unfolding state_of
  refused_by_lem answer run slots refusal = record {
    state = λ p es k r. sym (refusal p es k r);
    stays = λ _ es k r. rw (cells_by w w' slots, used_by w w' slots, classes_by w w' (records_after w w' e.1), trail_after w w' e.1) refl;
    names = names_by w w' (records_after w w' e.1);
    rest = rest_after w w' e.1;
    fine = fine_obtained (slots_of w) s n small e.0;
  }

  no_slot : q ≡ None → (cells_of w (scope_of s) n ≡ no_cell) × (used_of w ≡ 512)
  unfolding used_of
  no_slot at = let f = all_taken (slots_of w) s n e.0 at in (cell_is ∙ f.0, f.1)

  pub assign_full : (x : Labelled) → q ≡ None → Answers w w' (Err NoRoom) (λ p. assign p (scope_of s) n x)
  unfolding outcome state_of
  assign_full x at =
      refused_by_lem (Err NoRoom) (λ p. assign p (scope_of s) n x) (none_changed (slots_of w) s n e.0 at)
      (λ p es k r. assign_no_room p (scope_of s) n (state_of w es k r) x (no_slot at).0 (no_slot at).1)

  pub mark_full : (k : Labels) → q ≡ None → Answers w w' (Err NoRoom) (λ p. mark_one p (scope_of s) n k)
  unfolding outcome state_of
  mark_full l at =
      refused_by_lem (Err NoRoom) (λ p. mark_one p (scope_of s) n l) (none_changed (slots_of w) s n e.0 at)
      (λ p es k r. mark_no_room p (scope_of s) n (state_of w es k r) l (no_slot at).0 (no_slot at).1)

  pub assign_has : (x : Labelled) (i : ℕ) → q ≡ Some i → {b : Bool} → b ≡ is_some (value_in (slots_of w' i)) → b ≡ true → Answers w w' (Err HasValue) (λ p. assign p (scope_of s) n x)
  unfolding outcome state_of
  assign_has x i at read h =
      let o = ready_at i at in
      let there : is_some (cells_in (slots_of w) s n).value ≡ true = rw (sym o.value) (sym read ∙ h) in
      refused_by_lem (Err HasValue) (λ p. assign p (scope_of s) n x) (value_kept (slots_of w) s n e.0 there)
      (λ p es k r. assign_again p (scope_of s) n (state_of w es k r) x (ap (λ (c : Cell). is_some c.value) cell_is ∙ there))

  -- a store at the slot
  module _ (i : ℕ) (at : q ≡ Some i) (x : Slot) (w'' : List ℕ) (keeps : Keeps x (slots_of w' i)) (c : (slots_of w'' ≡ put_at i x (slots_of w')) × (beside_slots w'' ≡ beside_slots w')) where
    cells_changed : (g : Bool → Cell → Cell) → ((z : Cell) → g false z ≡ z) → cell_in x ≡ g true (cells_in (slots_of w) s n)
        → cells_of w'' ≡ λ t m. g (same_scope t (scope_of s) && eqb m n) (cells_of w t m)
    unfolding cells_of
    cells_changed g none-else own =
        by_number s (cells_in (slots_of w)) (cells_in (slots_of w'')) (λ b m z. g (b && eqb m n) z) (λ m z. none-else z)
        (λ s' m. ap (λ (f : ℕ → Slot). cells_in f s' m) c.0 ∙ (ready_at i at).cells x keeps s' m ∙ into (cells_in (slots_of w)) s n (cell_in x) g none-else own s' m)

    used_changed : used_of w'' ≡ used_of w + one_if (not (cells_of w (scope_of s) n).exists)
    unfolding used_of
    used_changed = ap used_in c.0 ∙ (ready_at i at).count x keeps ∙ rw cell_is refl

    room_left : used_of w + one_if (not (cells_of w (scope_of s) n).exists) ≤ 512
    unfolding used_of
    room_left = rw cell_is (ready_at i at).room

    all_beside : beside_slots w'' ≡ beside_slots w
    all_beside = c.1 ∙ e.1

    -- the state after a change of one cell
    abbrev after : (Bool → Cell → Cell) → List Entry → ℕ → ℕ → State
    after g es k r = record {
      cells = λ t m. g (same_scope t (scope_of s) && eqb m n) (cells_of w t m);
      used = used_of w + one_if (not (cells_of w (scope_of s) n).exists);
      classes = classes_of w;
      trail = trail_of w;
      entries = es;
      steps_left = k;
      room = r;
    }

    state_changed : (g : Bool → Cell → Cell) → ((z : Cell) → g false z ≡ z) → cell_in x ≡ g true (cells_in (slots_of w) s n) → (es : List Entry) (k r : ℕ) → state_of w'' es k r ≡ after g es k r
    unfolding state_of
    state_changed g none-else own es k r =
        rw (cells_changed g none-else own, used_changed, classes_by w w'' (records_after w w'' all_beside), trail_after w w'' all_beside) refl

    stored_by : (run : ℕ → State → Outcome State) (g : Bool → Cell → Cell) → ((z : Cell) → g false z ≡ z) → cell_in x ≡ g true (cells_in (slots_of w) s n)
        → ((p : ℕ) (es : List Entry) (k r : ℕ) → run p (state_of w es k r) ≡ done (after g es k r)) → Answers w w'' (Ok tt) run
    unfolding outcome
    stored_by run g none-else own ran = record {
      state = λ p es k r. ap done (state_changed g none-else own es k r) ∙ sym (ran p es k r);
      stays = λ other. absurd (other refl);
      names = names_by w w'' (records_after w w'' all_beside);
      rest = rest_after w w'' all_beside;
      fine = λ f. rw c.0 (fine_keeps (slots_of w') i x s n keeps (ready_at i at).key (fine_obtained (slots_of w) s n small e.0 f));
    }

  pub assign_done : (x : Labelled) (i : ℕ) (w'' : List ℕ) → q ≡ Some i → {b : Bool} → b ≡ is_some (value_in (slots_of w' i)) → b ≡ false
      → StoresAt i (filled x) w' w'' → Answers w w'' (Ok tt) (λ p. assign p (scope_of s) n x)
  unfolding state_of value_into
  assign_done x i w'' at read h c =
      let o = ready_at i at in
      let y : Slot = filled x (slots_of w' i) in
      let keeps : Keeps y (slots_of w' i) = filled_keeps x (slots_of w' i) in
      let none_there : is_some (cells_of w (scope_of s) n).value ≡ false = rw (cell_is, sym o.value) (sym read ∙ h) in
      stored_by i at y w'' keeps c (λ p. assign p (scope_of s) n x) (λ b z. value_into b x z) (λ z. refl) (filled_cell x (slots_of w' i) o.used ∙ ap (cell_with (some x)) o.mark)
      (λ p es k r. assign_fits p (scope_of s) n (state_of w es k r) x none_there (room_left i at y w'' keeps c))

  pub mark_done : (l : Labels) (i : ℕ) (w'' : List ℕ) → q ≡ Some i → StoresAt i (marked (l ∪ set_at w' (body_at i + body_mark))) w' w'' → Answers w w'' (Ok tt) (λ p. mark_one p (scope_of s) n l)
  unfolding state_of marked_one mark_into
  mark_done l i w'' at c =
      let o = ready_at i at in
      let u : Labels = l ∪ set_at w' (body_at i + body_mark) in
      let y : Slot = marked u (slots_of w' i) in
      let keeps : Keeps y (slots_of w' i) = marked_keeps u (slots_of w' i) in
      let joined : u ≡ l ∪ (cells_in (slots_of w) s n).mark = ap (λ (k : Labels). l ∪ k) (mark_read w' i o.below ∙ o.mark) in
      stored_by i at y w'' keeps c (λ p. mark_one p (scope_of s) n l) (λ b z. mark_into b l z) (λ z. refl) (marked_cell_lem u (slots_of w' i) ∙ rw (o.used, o.value, joined) refl)
      (λ p es k r. mark_fits p (scope_of s) n (state_of w es k r) l (room_left i at y w'' keeps c))

-- ---- Slots that are found

pub in_slots : (t : ℕ) (f : ℕ → Slot) (s n i : ℕ) {q : CodeOption ℕ} → q ≡ slot_in t f s n → q ≡ Some i → i < 512
unfolding slot_in
in_slots t f s n i e p = (was_last 512 (λ k. hit_as t s n (f k)) i (sym e ∙ p)).below

-- the cell of a key is that of its slot, and none where it has no slot
pub cell_found : (w : List ℕ) (s n : ℕ) {q : CodeOption ℕ} → q ≡ slot_for (slots_of w) s n → cells_of w (scope_of s) n ≡ cell_at (slots_of w) q
unfolding cells_of cells_in
cell_found w s n e = cell_at_lem (cells_in (slots_of w)) s n ∙ ap (cell_at (slots_of w)) (sym e)

-- a memory has at most 512 cells
pub used_limit : (w : List ℕ) → used_of w ≤ 512
unfolding used_of
used_limit w = used_small (slots_of w)
