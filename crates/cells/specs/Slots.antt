-- Slots: what one holds, what a store makes of it, and searches among the 512.
use Rattle.std.specs.Prelude.{ℕ, zero, suc, ◌≤◌, ◌<◌, ◌≡◌, Bool, true, false, List, eqb, Option as CodeOption, Some, None}
use Rattle.std.proofs.Math.Option.{Option, none, some}
use Rattle.labels.specs.declared.Labels.{Labels}
use Rattle.labels.specs.Sets.{no_labels}
use Rattle.values.specs.declared.Labelled.{Labelled}
use Rattle.wire.specs.Bytes.{pick}
use Rattle.rules.specs.State.{Cell}
use Rattle.cells.specs.declared.SlotState.{SlotState}
use Rattle.cells.specs.declared.SlotState.TheVariants.{Used, Freed}
use Rattle.cells.specs.Layout.{Slot, slot, slots_of, beside_slots, put_at}

-- ---- What a slot holds

-- the byte that keeps a state
abbrev pub state_byte : SlotState → ℕ
state_byte Used = 1
state_byte Freed = 5

unfoldable pub in_use : Slot → Bool
in_use (slot r t s n c m) = eqb t 1

unfoldable pub never_used : Slot → Bool
never_used (slot r t s n c m) = eqb t 0

unfoldable pub is_reached : Slot → Bool
is_reached (slot r t s n c m) = r

-- for this scope number and name, and in this state; reached besides
unfoldable pub is_for : (state scope name : ℕ) → Slot → Bool
is_for t s n (slot r t' s' n' c m) = pick (eqb s' s) (pick (eqb n' n) (eqb t' t) false) false

abbrev pub hit_as : (state scope name : ℕ) → Slot → Bool
hit_as t s n x = pick (is_reached x) (is_for t s n x) false

-- reached, and in use for this scope number and name; in use for this scope number
abbrev pub hit : (scope name : ℕ) → Slot → Bool
hit s n x = hit_as 1 s n x

unfoldable pub of_scope : (scope : ℕ) → Slot → Bool
of_scope s (slot r t s' n c m) = pick (eqb t 1) (eqb s' s) false

unfoldable pub value_in : Slot → Option Labelled
value_in (slot r t s n c m) = c

unfoldable pub mark_in : Slot → Labels
mark_in (slot r t s n c m) = m

abbrev pub cell_in : Slot → Cell
cell_in x = record { exists = in_use x; value = value_in x; mark = mark_in x }

-- ---- What the stores make of a slot

-- out of its chain; into the chain of a key
unfoldable pub taken_out : Slot → Slot
taken_out (slot r t s n c m) = slot false t s n c m

unfoldable pub put_in : (scope name : ℕ) → Slot → Slot
put_in s n (slot r t s' n' c m) = slot true t s n c m

-- in use, and holding nothing; so for a scope number and a name
unfoldable pub renewed : Slot → Slot
renewed (slot r t s n c m) = slot r 1 s n none no_labels

unfoldable pub claimed : (scope name : ℕ) → Slot → Slot
claimed s n (slot r t s' n' c m) = slot true 1 s n none no_labels

unfoldable pub filled : Labelled → Slot → Slot
filled x (slot r t s n c m) = slot r t s n (some x) m

unfoldable pub marked : Labels → Slot → Slot
marked k (slot r t s n c m) = slot r t s n c k

unfoldable pub emptied : Slot → Slot
emptied (slot r t s n c m) = slot r 5 s n c m

unfoldable pub freed_slot : (scope : ℕ) → Slot → Slot
freed_slot s x = pick (of_scope s x) (emptied x) x

-- slot i goes by g; no other slot changes, and nothing beside the slots
abbrev pub StoresAt : ℕ → (Slot → Slot) → (before after : List ℕ) → Type 0
StoresAt i g w w' = (slots_of w' ≡ put_at i (g (slots_of w i)) (slots_of w)) × (beside_slots w' ≡ beside_slots w)

-- ---- Searches

-- the last number below k that passes a test
unfoldable pub last_below : ℕ → (ℕ → Bool) → CodeOption ℕ
last_below zero h = None
last_below (suc k) h = pick (h k) (Some k) (last_below k h)

-- the first match in a chain, whose numbers fall
unfoldable pub slot_in : (state : ℕ) → (ℕ → Slot) → (scope name : ℕ) → CodeOption ℕ
slot_in t f s n = last_below 512 (λ i. hit_as t s n (f i))

abbrev pub slot_for : (ℕ → Slot) → (scope name : ℕ) → CodeOption ℕ
slot_for f s n = slot_in 1 f s n

-- slots are claimed in turn: past one that was never used there are only such
abbrev pub Packed : (ℕ → Slot) → Type 0
Packed f = (i j : ℕ) → never_used (f i) ≡ true → i ≤ j → never_used (f j) ≡ true

-- a slot to claim: it is not in use, and it is its turn
pub record Open (f : ℕ → Slot) (i : ℕ) : Type 0 where
  pub below : i < 512
  pub unused : in_use (f i) ≡ false
  pub turn : Packed f → (k : ℕ) → k < i → never_used (f k) ≡ false

-- such a slot, or none where all are in use
pub data FindsOpen (f : ℕ → Slot) : CodeOption ℕ → Type 0 where
  opened : {i : ℕ} → Open f i → FindsOpen f (Some i)
  full : ((i : ℕ) → i < 512 → in_use (f i) ≡ true) → FindsOpen f None

-- a slot is claimed for a key, unless all are in use
pub data Claims (f : ℕ → Slot) (s n : ℕ) : CodeOption ℕ → (ℕ → Slot) → Type 0 where
  claims : {i : ℕ} {f' : ℕ → Slot} → Open f i → f' ≡ put_at i (claimed s n (f i)) f → Claims f s n (Some i) f'
  refuses : ((i : ℕ) → i < 512 → in_use (f i) ≡ true) → Claims f s n None f

-- the slot of a key: the one in use, or one that is claimed
pub data Obtains (f : ℕ → Slot) (s n : ℕ) : CodeOption ℕ → (ℕ → Slot) → Type 0 where
  holds : {i : ℕ} → slot_for f s n ≡ Some i → Obtains f s n (Some i) f
  lacks : {q : CodeOption ℕ} {f' : ℕ → Slot} → slot_for f s n ≡ None → Claims f s n q f' → Obtains f s n q f'

-- ---- The invariant, which freeing a scope requires: no key twice, every name below 1,024, every slot in use is reached, and slots are claimed in turn

pub record FineSlots (f : ℕ → Slot) : Type 0 where
  pub once : (i j s n : ℕ) → i < 512 → j < 512 → hit s n (f i) ≡ true → hit s n (f j) ≡ true → i ≡ j
  pub small : (i s n : ℕ) → hit s n (f i) ≡ true → n < 1024
  pub linked : (i : ℕ) → in_use (f i) ≡ true → is_reached (f i) ≡ true
  pub packed : Packed f
