-- From slots to cells by scope number and name. No invariant is needed: the first match determines every cell.
use Rattle.std.proofs.lemmas.Bool.{false_from_ne_true}
use mathlib.Core.Path.{◌≡◌, refl, sym, ap, ◌∙◌}
use mathlib.Core.Bool.{Bool, true, false, not, ◌&&◌, false≢true}
use mathlib.Core.Option.{none}
use Prim.Native.Nat.{ℕ, suc, ◌+◌, ◌≤◌, ◌<◌}
use native.Mathlib.Nat.{add-zero}
use native.Mathlib.Numerals.{add-one}
use native.Mathlib.Omega.{arith}
use lib.Dec.{eqb}
use borrow.Author.Tests.{eqb-true, eqb-false, eq-eqb}
use Rattle.labels.specs.Sets.{no_labels}
use Rattle.wire.specs.Bytes.{pick}
use Rattle.rules.specs.State.{no_cell, count, is_some, one_if}
use Rattle.cells.specs.Layout.{Slot, slot, put_at}
use Rattle.cells.specs.Slots.{hit, hit_as, is_for, in_use, is_reached, never_used, value_in, mark_in, cell_in, renewed, claimed, last_below, slot_in, slot_for, Open, FindsOpen, opened, full, Claims, claims, refuses, Obtains, holds, lacks}
use Rattle.cells.specs.Memory.{cell_at, cells_in, used_in}
use Rattle.cells.proofs.Tables.{put_same, put_other, put_put, put_kept}
use Rattle.cells.proofs.Search.{Below, was_last, not_last, last_new, count_new, count_all, count_le, count_room}
use Rattle.std.specs.Prelude.{Option, Some, None}

-- ---- Keys

pub split_key : (u v z : Bool) → pick u (pick v z false) false ≡ true → (u ≡ true) × ((v ≡ true) × (z ≡ true))
split_key true true z e = (refl, (refl, e))
split_key true false z e = let k : ◌≡◌ {A = ℕ} 0 1 = cc in absurd (omega arith)
split_key false v z e = let k : ◌≡◌ {A = ℕ} 0 1 = cc in absurd (omega arith)

pub both : (u v : Bool) → pick u v false ≡ true → (u ≡ true) × (v ≡ true)
both true v e = (refl, e)
both false v e = let k : ◌≡◌ {A = ℕ} 0 1 = cc in absurd (omega arith)

for_key : (s n s' n' : ℕ) (x : Slot) → is_for 1 s n x ≡ true → is_for 1 s' n' x ≡ true → (s' ≡ s) × (n' ≡ n)
unfolding is_for
for_key s n s' n' (slot r t a b y m) e e' =
    let c = split_key (eqb a s) (eqb b n) (eqb t 1) e in
    let d = split_key (eqb a s') (eqb b n') (eqb t 1) e' in
    (sym (eqb-true a s' d.0) ∙ eqb-true a s c.0, sym (eqb-true b n' d.1.0) ∙ eqb-true b n c.1.0)

for_used : (s n : ℕ) (x : Slot) → is_for 1 s n x ≡ true → in_use x ≡ true
unfolding is_for in_use
for_used s n (slot r t a b y m) e = (split_key (eqb a s) (eqb b n) (eqb t 1) e).1.1

pub hit_key : (s n s' n' : ℕ) (x : Slot) → hit s n x ≡ true → hit s' n' x ≡ true → (s' ≡ s) × (n' ≡ n)
hit_key s n s' n' x e e' = for_key s n s' n' x (both (is_reached x) (is_for 1 s n x) e).1 (both (is_reached x) (is_for 1 s' n' x) e').1

pub hit_used : (s n : ℕ) (x : Slot) → hit s n x ≡ true → in_use x ≡ true
hit_used s n x e = for_used s n x (both (is_reached x) (is_for 1 s n x) e).1

pub hit_reached : (s n : ℕ) (x : Slot) → hit s n x ≡ true → is_reached x ≡ true
hit_reached s n x e = (both (is_reached x) (is_for 1 s n x) e).0

pub free_miss : (s n : ℕ) (x : Slot) → in_use x ≡ false → hit s n x ≡ false
free_miss s n x e = false_from_ne_true (hit s n x) (λ h. false≢true (sym e ∙ hit_used s n x h))

-- a slot that is in use was used
pub used_once : (x : Slot) → in_use x ≡ true → never_used x ≡ false
unfolding in_use never_used
used_once (slot r t s n c m) u = rw (eqb-true t 1 u) refl

pub never_free : (x : Slot) → never_used x ≡ true → in_use x ≡ false
never_free x e = false_from_ne_true (in_use x) (λ u. false≢true (sym (used_once x u) ∙ e))

pub not_hit : (s n s' n' : ℕ) (x : Slot) → hit s n x ≡ true → (s' ≡ s → n' ≡ n → ⊥) → hit s' n' x ≡ false
not_hit s n s' n' x e ne = false_from_ne_true (hit s' n' x) (λ p. (let k = hit_key s n s' n' x e p in ne k.0 k.1))

pub claimed_hit : (s n : ℕ) (x : Slot) → hit s n (claimed s n x) ≡ true
unfolding is_reached is_for claimed
claimed_hit s n (slot r t a b y m) = simp (eq-eqb s s refl, eq-eqb n n refl)

-- a store that leaves the key
abbrev pub Keeps : Slot → Slot → Type 0
Keeps x y = (s n : ℕ) → hit s n x ≡ hit s n y

-- ---- Slot i becomes the one of s and n, and is of no other key before and after

module _ (f : ℕ → Slot) (i : ℕ) (x : Slot) (s n : ℕ) (found : slot_for (put_at i x f) s n ≡ Some i) (apart : (s' n' : ℕ) → (s' ≡ s → n' ≡ n → ⊥) → (hit s' n' x ≡ false) × (hit s' n' (f i) ≡ false)) where
  kept_cell_lem : (s' n' : ℕ) → hit s' n' (f i) ≡ false → (r : Option ℕ) → slot_for f s' n' ≡ r → cell_at (put_at i x f) r ≡ cell_at f r
  unfolding cell_at slot_in
  kept_cell_lem s' n' miss (Some j) q =
      let h = was_last 512 (λ k. hit s' n' (f k)) j q in
      let ne : j ≡ i → ⊥ = λ e. (let a : hit s' n' (f i) ≡ true = rw e at h.passes in let z : ◌≡◌ {A = ℕ} 0 1 = cc in omega arith) in
      rw (put_other i x f j ne)
  kept_cell_lem s' n' miss None q = refl

  other_cell : (s' n' : ℕ) → (s' ≡ s → n' ≡ n → ⊥) → cell_at (put_at i x f) (slot_for (put_at i x f) s' n') ≡ cell_at f (slot_for f s' n')
  unfolding slot_in
  other_cell s' n' ne =
      let a = apart s' n' ne in
      ap (λ (h : ℕ → Bool). cell_at (put_at i x f) (last_below 512 h)) (put_kept (hit s' n') i x f (a.0 ∙ sym a.1)) ∙ kept_cell_lem s' n' a.1 (slot_for f s' n') refl

  own_cell : cell_at (put_at i x f) (slot_for (put_at i x f) s n) ≡ cell_in x
  unfolding cell_at
  own_cell = rw found (rw (put_same i x f) refl)

  cells_put : (s' n' : ℕ) → cells_in (put_at i x f) s' n' ≡ pick (eqb s' s && eqb n' n) (cell_in x) (cells_in f s' n')
  unfolding cells_in
  cells_put s' n' = go (eqb s' s) refl (eqb n' n) refl
    where
      go : (t : Bool) → eqb s' s ≡ t → (u : Bool) → eqb n' n ≡ u → cell_at (put_at i x f) (slot_for (put_at i x f) s' n') ≡ pick (t && u) (cell_in x) (cell_at f (slot_for f s' n'))
      go true p true q = rw (eqb-true s' s p, eqb-true n' n q) own_cell
      go true p false q = other_cell s' n' (λ a b. eqb-false n' n q b)
      go false p u q = other_cell s' n' (λ a b. eqb-false s' s p a)

-- ---- What is known of the slot that was obtained: any store there that keeps the key changes that one cell

pub record Ready (f : ℕ → Slot) (s n i : ℕ) (f' : ℕ → Slot) : Type 0 where
  pub below : i < 512
  pub value : value_in (f' i) ≡ (cells_in f s n).value
  pub mark : mark_in (f' i) ≡ (cells_in f s n).mark
  pub key : hit s n (f' i) ≡ true
  pub used : in_use (f' i) ≡ true
  pub room : used_in f + one_if (not (cells_in f s n).exists) ≤ 512
  pub cells : (x : Slot) → Keeps x (f' i) → (s' n' : ℕ) → cells_in (put_at i x f') s' n' ≡ pick (eqb s' s && eqb n' n) (cell_in x) (cells_in f s' n')
  pub count : (x : Slot) → Keeps x (f' i) → used_in (put_at i x f') ≡ used_in f + one_if (not (cells_in f s n).exists)

pub used_small : (f : ℕ → Slot) → used_in f ≤ 512
unfolding used_in
used_small f = count_le 512 (λ i. in_use (f i))

-- a key that is there
module _ (f : ℕ → Slot) (s n i : ℕ) (found : slot_for f s n ≡ Some i) where
  there : Below 512 (λ k. hit s n (f k)) i
  unfolding slot_in
  there = was_last 512 (λ k. hit s n (f k)) i found

  still_found : (x : Slot) → Keeps x (f i) → slot_for (put_at i x f) s n ≡ Some i
  unfolding slot_in
  still_found x keeps = ap (last_below 512) (put_kept (hit s n) i x f (keeps s n)) ∙ found

  still_used : (x : Slot) → Keeps x (f i) → used_in (put_at i x f) ≡ used_in f
  unfolding used_in
  still_used x keeps = ap (count 512) (put_kept in_use i x f (hit_used s n x (keeps s n ∙ there.passes) ∙ sym (hit_used s n (f i) there.passes)))

  ready_old : Ready f s n i f
  unfolding cells_in cell_at one_if
  ready_old =
      let u : in_use (f i) ≡ true = hit_used s n (f i) there.passes in
      record {
        below = there.below;
        value = rw found;
        mark = rw found;
        key = there.passes;
        used = u;
        room = rw (found, u) (omega (arith, used_small f));
        cells = λ x keeps. cells_put f i x s n (still_found x keeps) (λ s' n' ne. (let m = not_hit s n s' n' (f i) there.passes ne in (keeps s' n' ∙ m, m)));
        count = λ x keeps. still_used x keeps ∙ rw (found, u) (sym (add-zero (used_in f)));
      }

claimed_value : (s n : ℕ) (x : Slot) → value_in (claimed s n x) ≡ none
unfolding value_in claimed
claimed_value s n (slot r t a b y m) = refl

claimed_mark : (s n : ℕ) (x : Slot) → mark_in (claimed s n x) ≡ no_labels
unfolding mark_in claimed
claimed_mark s n (slot r t a b y m) = refl

-- a new key, in a free slot
module _ (f : ℕ → Slot) (s n i : ℕ) (missing : slot_for f s n ≡ None) (free : Open f i) where
  module _ (x : Slot) (is : hit s n x ≡ true) where
    new_found : slot_for (put_at i x f) s n ≡ Some i
    unfolding slot_in
    new_found = last_new 512 (λ k. hit s n (f k)) (λ k. hit s n (put_at i x f k)) i (not_last 512 (λ k. hit s n (f k)) missing) free.below (rw (put_same i x f) is) (λ l ne. ap (hit s n) (put_other i x f l ne))

    new_cells_lem : (s' n' : ℕ) → cells_in (put_at i x f) s' n' ≡ pick (eqb s' s && eqb n' n) (cell_in x) (cells_in f s' n')
    new_cells_lem = cells_put f i x s n new_found (λ s' n' ne. (not_hit s n s' n' x is ne, free_miss s' n' (f i) free.unused))

    new_used : used_in (put_at i x f) ≡ suc (used_in f)
    unfolding used_in
    new_used = count_new 512 (λ k. in_use (f k)) (λ k. in_use (put_at i x f k)) i free.below free.unused (rw (put_same i x f) (hit_used s n x is)) (λ l ne. ap in_use (put_other i x f l ne))

  new_room : used_in f < 512
  unfolding used_in
  new_room = count_room 512 (λ k. in_use (f k)) i free.below free.unused

  ready_new : Ready f s n i (put_at i (claimed s n (f i)) f)
  unfolding cells_in cell_at no_cell one_if
  ready_new =
      let x : Slot = claimed s n (f i) in
      let own : put_at i x f i ≡ x = put_same i x f in
      let is : (y : Slot) → Keeps y (put_at i x f i) → hit s n y ≡ true = λ y keeps. keeps s n ∙ ap (hit s n) own ∙ claimed_hit s n (f i) in
      record {
        below = free.below;
        value = rw (own, missing) (claimed_value s n (f i));
        mark = rw (own, missing) (claimed_mark s n (f i));
        key = rw own (claimed_hit s n (f i));
        used = rw own (hit_used s n x (claimed_hit s n (f i)));
        room = rw missing (omega (arith, new_room));
        cells = λ y keeps s' n'. rw (put_put i y x f) (new_cells_lem y (is y keeps) s' n');
        count = λ y keeps. rw (put_put i y x f, new_used y (is y keeps), missing) (sym (add-one (used_in f)));
      }

-- ---- What `obtain` did

module _ (f : ℕ → Slot) (s n : ℕ) where
  pub ready : (i : ℕ) {q : Option ℕ} {f' : ℕ → Slot} → Obtains f s n q f' → q ≡ Some i → Ready f s n i f'
  ready i (holds {i = j} p) e = let same : i ≡ j = cc in ready_old f s n i (p ∙ ap Some (sym same))
  ready i (lacks p (claims {i = j} free z)) e = let same : j ≡ i = cc in rw z (rw same (ready_new f s n i p (rw same at free)))
  ready i (lacks p (refuses all)) e = let z : ◌≡◌ {A = ℕ} 0 1 = cc in absurd (omega arith)

  -- none was left: there is no such cell, and all are in use
  pub all_taken : {q : Option ℕ} {f' : ℕ → Slot} → Obtains f s n q f' → q ≡ None → (cells_in f s n ≡ no_cell) × (used_in f ≡ 512)
  unfolding cells_in cell_at used_in
  all_taken (holds p) e = let z : ◌≡◌ {A = ℕ} 0 1 = cc in absurd (omega arith)
  all_taken (lacks p (claims free y)) e = let z : ◌≡◌ {A = ℕ} 0 1 = cc in absurd (omega arith)
  all_taken (lacks p (refuses all)) e = (rw p, count_all 512 (λ k. in_use (f k)) all)

  -- where none was left, or the cell has a value already, no slot was changed
  pub none_changed : {q : Option ℕ} {f' : ℕ → Slot} → Obtains f s n q f' → q ≡ None → f' ≡ f
  none_changed (holds p) e = refl
  none_changed (lacks p (claims free y)) e = let z : ◌≡◌ {A = ℕ} 0 1 = cc in absurd (omega arith)
  none_changed (lacks p (refuses all)) e = refl

  pub value_kept : {q : Option ℕ} {f' : ℕ → Slot} → Obtains f s n q f' → is_some (cells_in f s n).value ≡ true → f' ≡ f
  unfolding cells_in cell_at no_cell is_some
  value_kept (holds p) e = refl
  value_kept (lacks p made) e = let none_there : is_some (cells_in f s n).value ≡ false = rw p refl in absurd (false≢true (sym none_there ∙ e))

-- ---- The ways of `claim_open`

-- a slot of the key that was freed, used again where it stands
freed_again : (s n : ℕ) (x : Slot) → hit_as 5 s n x ≡ true → (renewed x ≡ claimed s n x) × ((in_use x ≡ false) × (never_used x ≡ false))
unfolding is_reached is_for renewed claimed in_use never_used
freed_again s n (slot r t a b y m) e =
    let there = both r (pick (eqb a s) (pick (eqb b n) (eqb t 5) false) false) e in
    let k = split_key (eqb a s) (eqb b n) (eqb t 5) there.1 in
    rw (eqb-true a s k.0, eqb-true b n k.1.0, eqb-true t 5 k.1.1, there.0) (refl, (refl, refl))

pub claim_freed : (f : ℕ → Slot) (s n i : ℕ) {f' : ℕ → Slot} {q : Option ℕ} → q ≡ slot_in 5 f s n → q ≡ Some i → f' ≡ put_at i (renewed (f i)) f → Claims f s n (Some i) f'
unfolding slot_in
claim_freed f s n i p at e =
    let found = was_last 512 (λ k. hit_as 5 s n (f k)) i (sym p ∙ at) in
    let again = freed_again s n (f i) found.passes in
    claims (record {
      below = found.below;
      unused = again.1.0;
      turn = λ packed k l. false_from_ne_true (never_used (f k)) (λ never. false≢true (sym again.1.1 ∙ packed k i never (omega arith)));
    }) (e ∙ rw again.0 refl)

pub open_at : (f : ℕ → Slot) (i : ℕ) {q : Option ℕ} → FindsOpen f q → q ≡ Some i → Open f i
open_at f i (opened {i = j} free) e = let same : j ≡ i = cc in rw same at free
open_at f i (full all) e = let z : ◌≡◌ {A = ℕ} 0 1 = cc in absurd (omega arith)

pub all_used : (f : ℕ → Slot) (s n : ℕ) {q : Option ℕ} → FindsOpen f q → q ≡ None → Claims f s n None f
all_used f s n (opened free) e = let z : ◌≡◌ {A = ℕ} 0 1 = cc in absurd (omega arith)
all_used f s n (full all) e = refuses all
