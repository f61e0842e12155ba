-- From bytes to slots: each field store changes one field of one slot, no other slot, and no byte elsewhere. A run of such stores is a
-- `Step`; the ways of the functions at a slot follow.
use mathlib.Core.Path.{◌≡◌, refl, sym, ap, ◌∙◌}
use mathlib.Core.Bool.{Bool, false}
use mathlib.Core.List.{List}
use mathlib.Core.Option.{Option, none, some}
use Prim.Native.Nat.{ℕ, ◌+◌, ◌≤◌, ◌<◌}
use native.Mathlib.Omega.{arith}
use lib.Dec.{eqb, lit<}
use lib.ListN.{length}
use Rattle.labels.specs.declared.Labels.{Labels}
use Rattle.labels.specs.Sets.{Words64, no_labels}
use Rattle.labels.specs.Bytes.{label_bytes, set_at}
use Rattle.labels.proofs.Laws.{label_length, words_none}
use Rattle.labels.proofs.Places.{set_in, set_outside, set_back}
use Rattle.values.specs.declared.Labelled.{Labelled}
use Rattle.wire.specs.Bytes.{byte, two}
use Rattle.wire.specs.Numbers.{high_bytes}
use Rattle.wire.specs.Runs.{bytes_at, over}
use Rattle.wire.proofs.Laws.{two_in, over_in, run_length, same_run, over_length, byte_outside, run_outside, high_length, stored_byte, stored_two, two_same}
use Rattle.records.specs.Record.{record_size, kind_at, record_bytes, record_in}
use Rattle.records.proofs.Values.{Ranged}
use Rattle.records.proofs.Laws.{record_in_lem, record_length, record_back, record_outside, record_emptied}
use Rattle.cells.specs.Layout.{key_at, body_at, record_at, link_at, chain_of, chain_in, link_in, chained, beside_slots, Slot, slot, blank_slot, slot_at, slots_of, body_size, body_mark, trail_at, hint_at, key_name, key_size}
use Rattle.cells.specs.Slots.{StoresAt, in_use, never_used, is_reached, renewed, filled, marked, emptied}
use Rattle.cells.proofs.Tables.{put_same, put_put, table_in, table_same, table_put}
use Rattle.cells.proofs.Regions.{same_two, beside_same}
use Rattle.cells.proofs.Chains.{is_or_not}
use Rattle.cells.proofs.Links.{low_chains, links_same, chains_same}

pub slot_in_lem : (w : List ℕ) (i : ℕ) → i < 512 → slots_of w i ≡ slot_at w i
unfolding slots_of
slot_in_lem w i h = table_in 512 (slot_at w) blank_slot i h

-- what is read of it
pub used_read : (w : List ℕ) (i : ℕ) → i < 512 → in_use (slots_of w i) ≡ eqb (byte w i) 1
unfolding in_use slot_at
used_read w i l = rw (slot_in_lem w i l) refl

pub reached_is : (w : List ℕ) (i : ℕ) → i < 512 → is_reached (slots_of w i) ≡ chained w (chain_in w i) i
unfolding is_reached slot_at
reached_is w i l = rw (slot_in_lem w i l) refl

pub never_read : (w : List ℕ) (i : ℕ) → i < 512 → never_used (slots_of w i) ≡ eqb (byte w i) 0
unfolding never_used slot_at
never_read w i l = rw (slot_in_lem w i l) refl

-- ---- A slot by whether it is reached, its state, and its two runs

unfoldable pub slot_from : (reached : Bool) → (state : ℕ) → (key body : List ℕ) → Slot
slot_from r t k b = slot r t (two k 0) (two k key_name) (record_in b 0) (set_at b body_mark)

abbrev pub key_of : List ℕ → ℕ → List ℕ
key_of w i = bytes_at w (key_at i) key_size

abbrev pub body_of : List ℕ → ℕ → List ℕ
body_of w i = bytes_at w (body_at i) body_size

-- the slot's own bytes
abbrev pub fields_at : List ℕ → ℕ → Bool → Slot
fields_at w i r = slot_from r (byte w i) (key_of w i) (body_of w i)

pub slot_fields : (w : List ℕ) (i : ℕ) → slot_at w i ≡ fields_at w i (chained w (chain_in w i) i)
unfolding slot_at slot_from
slot_fields w i =
    let zero_key : key_at i + 0 ≡ key_at i = omega arith in
    let zero_body : body_at i + 0 ≡ body_at i = omega arith in
    rw (
      two_in w (key_at i) key_size 0 (omega arith),
      two_in w (key_at i) key_size key_name (omega arith),
      record_in_lem w (body_at i) body_size 0 (omega arith),
      set_in w (body_at i) body_size body_mark (omega arith),
      zero_key,
      zero_body,
    )

-- the same bytes
pub same_fields_lem : (w w' : List ℕ) (i : ℕ) → byte w' i ≡ byte w i → ((k : ℕ) → key_at i ≤ k → k < key_at i + key_size → byte w' k ≡ byte w k) → ((k : ℕ) → body_at i ≤ k → k < body_at i + body_size → byte w' k ≡ byte w k)
    → (r : Bool) → fields_at w' i r ≡ fields_at w i r
same_fields_lem w w' i state key body r =
    rw (
      state,
      same_run w' w (key_at i) (key_at i) key_size (λ k u. key (key_at i + k) (omega arith) (omega arith)),
      same_run w' w (body_at i) (body_at i) body_size (λ k u. body (body_at i + k) (omega arith) (omega arith)),
    )

pub low_fields : (w w' : List ℕ) → ((k : ℕ) → k < trail_at → byte w' k ≡ byte w k) → (i : ℕ) → i < 512 → (r : Bool) → fields_at w' i r ≡ fields_at w i r
low_fields w w' same i l = same_fields_lem w w' i (same i (omega arith)) (λ k a b. same k (omega arith)) (λ k a b. same k (omega arith))

-- slots that are reached alike, and have the same bytes
pub same_slot : (w w' : List ℕ) (i : ℕ) → chain_in w' i ≡ chain_in w i → chained w' (chain_in w i) i ≡ chained w (chain_in w i) i → ((r : Bool) → fields_at w' i r ≡ fields_at w i r) → slot_at w' i ≡ slot_at w i
same_slot w w' i chain reached fields =
    slot_fields w' i ∙ ap (fields_at w' i) (ap (λ (n : ℕ). chained w' n i) chain ∙ reached) ∙ fields (chained w (chain_in w i) i) ∙ sym (slot_fields w i)

-- where all bytes of the slots, the heads and the links are the same
pub slots_same : (w w' : List ℕ) → ((k : ℕ) → k < trail_at → byte w' k ≡ byte w k) → ((q : ℕ) → q < 1024 → two w' (record_at q) ≡ two w (record_at q)) → ((k : ℕ) → link_at 0 ≤ k → k < hint_at → byte w' k ≡ byte w k) → slots_of w' ≡ slots_of w
unfolding slots_of
slots_same w w' low heads links =
    table_same 512 (slot_at w) (slot_at w') blank_slot
    (λ i l. same_slot w w' i (chain i l) (chains_same w w' chain (links_same w w' (λ p b. same_two w w' (link_at p) (λ j h. links (link_at p + j) (omega arith) (omega arith))) heads) (chain_in w i) i l) (low_fields w w' low i l))
  where
    chain : (i : ℕ) → i < 512 → chain_in w' i ≡ chain_in w i
    chain = low_chains w w' low

-- ---- Stores at slot j

-- w' differs from w at most in the bytes of slot j
abbrev Mine : ℕ → List ℕ → List ℕ → Type 0
Mine j w w' = (k : ℕ) → (k ≡ j → ⊥) → (key_at j ≤ k → k < key_at j + key_size → ⊥) → (body_at j ≤ k → k < body_at j + body_size → ⊥) → byte w' k ≡ byte w k

-- slot j's bytes go by g, and nothing else changes
pub record Step (j : ℕ) (w w' : List ℕ) (g : Slot → Slot) : Type 0 where
  pub own : (r : Bool) → fields_at w' j r ≡ g (fields_at w j r)
  pub mine : Mine j w w'
  pub size : length w' ≡ length w

infixl 20 ◌then◌
pub ◌then◌ : {j : ℕ} {w w' w'' : List ℕ} {g g' : Slot → Slot} → Step j w w' g → Step j w' w'' g' → Step j w w'' (λ x. g' (g x))
◌then◌ {g' = g'} a b = record { own = λ r. b.own r ∙ ap g' (a.own r); mine = λ k p q r. b.mine k p q r ∙ a.mine k p q r; size = b.size ∙ a.size }

-- what each field store does to the slot
unfoldable pub with_state : ℕ → Slot → Slot
with_state v (slot r t s n c m) = slot r v s n c m

unfoldable pub with_scope : ℕ → Slot → Slot
with_scope v (slot r t s n c m) = slot r t v n c m

unfoldable pub with_name : ℕ → Slot → Slot
with_name v (slot r t s n c m) = slot r t s v c m

-- a key is stored in two parts
abbrev pub with_key : (scope name : ℕ) → Slot → Slot
with_key s n x = with_name n (with_scope s x)

unfoldable pub with_content : Option Labelled → Slot → Slot
with_content v (slot r t s n c m) = slot r t s n v m

unfoldable pub with_mark : Labels → Slot → Slot
with_mark v (slot r t s n c m) = slot r t s n c v

unfoldable pub name_of : Slot → ℕ
name_of (slot r t s n c m) = n

-- the chain of its key
unfoldable pub chain_for : Slot → ℕ
chain_for (slot r t s n c m) = chain_of s n

pub chain_fields : (w : List ℕ) (i : ℕ) (r : Bool) → chain_for (fields_at w i r) ≡ chain_in w i
unfolding chain_for slot_from
chain_fields w i r =
    let zero_key : key_at i + 0 ≡ key_at i = omega arith in
    rw (two_in w (key_at i) key_size 0 (omega arith), two_in w (key_at i) key_size key_name (omega arith), zero_key) refl

module _ (w : List ℕ) (j : ℕ) (below : j < 512) (room : 65536 ≤ length w) where
  pub state_step : {w' : List ℕ} (v : ℕ) → v < 256 → w' ≡ over w j (high_bytes 1 v) → Step j w w' (with_state v)
  unfolding slot_from with_state
  state_step v fits e =
      let bs : List ℕ = high_bytes 1 v in
      let size : length bs ≡ 1 = high_length 1 v in
      let other : (k : ℕ) → (k ≡ j → ⊥) → byte (over w j bs) k ≡ byte w k = λ k ne. byte_outside w j bs k (λ a b. ne (omega arith)) in
      rw e (record {
        own = λ r. rw (
          stored_byte w j v (omega arith) fits,
          same_run (over w j bs) w (key_at j) (key_at j) key_size (λ i l. other (key_at j + i) (λ z. omega arith)),
          same_run (over w j bs) w (body_at j) (body_at j) body_size (λ i l. other (body_at j + i) (λ z. omega arith)),
        ) refl;
        mine = λ k p q r. other k p;
        size = over_length w j bs;
      })

  -- any store within the key, and within the body
  key_step : (o : ℕ) (bs : List ℕ) (g : Slot → Slot) {w' : List ℕ} → o + length bs ≤ key_size → w' ≡ over w (key_at j + o) bs
      → ((r : Bool) → slot_from r (byte w j) (over (key_of w j) o bs) (body_of w j) ≡ g (fields_at w j r)) → Step j w w' g
  key_step o bs g fits e field =
      rw e (record {
        own = λ r. rw (byte_outside w (key_at j + o) bs j (λ a b. omega arith), over_in w (key_at j) key_size o bs fits (omega arith), run_outside w (key_at j + o) bs (body_at j) body_size (λ i a b c d. omega arith)) (field r);
        mine = λ k p q r. byte_outside w (key_at j + o) bs k (λ a b. q (omega arith) (omega arith));
        size = over_length w (key_at j + o) bs;
      })

  body_step : (o : ℕ) (bs : List ℕ) (g : Slot → Slot) {w' : List ℕ} → o + length bs ≤ body_size → w' ≡ over w (body_at j + o) bs
      → ((r : Bool) → slot_from r (byte w j) (key_of w j) (over (body_of w j) o bs) ≡ g (fields_at w j r)) → Step j w w' g
  body_step o bs g fits e field =
      rw e (record {
        own = λ r. rw (byte_outside w (body_at j + o) bs j (λ a b. omega arith), run_outside w (body_at j + o) bs (key_at j) key_size (λ i a b c d. omega arith), over_in w (body_at j) body_size o bs fits (omega arith)) (field r);
        mine = λ k p q r. byte_outside w (body_at j + o) bs k (λ a b. r (omega arith) (omega arith));
        size = over_length w (body_at j + o) bs;
      })

  -- what a store at o leaves of a run
  two_left : (o : ℕ) (bs : List ℕ) (q : ℕ) → ((i : ℕ) → q ≤ i → i < q + 2 → o ≤ i → i < o + length bs → ⊥) → two (over (key_of w j) o bs) q ≡ two (key_of w j) q
  two_left o bs q apart = two_same (over (key_of w j) o bs) (key_of w j) q q (run_outside (key_of w j) o bs q 2 apart)

  record_left : (o : ℕ) (bs : List ℕ) (q : ℕ) → ((i : ℕ) → q ≤ i → i < q + record_size → o ≤ i → i < o + length bs → ⊥) → record_in (over (body_of w j) o bs) q ≡ record_in (body_of w j) q
  record_left o bs q apart = record_outside (body_of w j) o bs q apart

  set_left : (o : ℕ) (bs : List ℕ) (q : ℕ) → ((i : ℕ) → q ≤ i → i < q + 32 → o ≤ i → i < o + length bs → ⊥) → set_at (over (body_of w j) o bs) q ≡ set_at (body_of w j) q
  set_left o bs q apart = set_outside (body_of w j) o bs q apart

  key_size_lem : length (key_of w j) ≡ key_size
  key_size_lem = run_length w (key_at j) key_size

  body_size_lem : length (body_of w j) ≡ body_size
  body_size_lem = run_length w (body_at j) body_size

  pub scope_step : {w' : List ℕ} (v : ℕ) → v < 65536 → w' ≡ over w (key_at j) (high_bytes 2 v) → Step j w w' (with_scope v)
  unfolding slot_from with_scope
  scope_step {w'} v fits e =
      let bs : List ℕ = high_bytes 2 v in
      let size : length bs ≡ 2 = high_length 2 v in
      let start : w' ≡ over w (key_at j + 0) bs = e ∙ ap (λ (p : ℕ). over w p bs) (omega arith) in
      key_step 0 bs (with_scope v) (omega arith) start (λ r. rw (stored_two (key_of w j) 0 v (omega (arith, key_size_lem)) fits, two_left 0 bs key_name (λ i a b c d. omega arith)) refl)

  pub name_step : {w' : List ℕ} (v : ℕ) → v < 65536 → w' ≡ over w (key_at j + key_name) (high_bytes 2 v) → Step j w w' (with_name v)
  unfolding slot_from with_name
  name_step v fits e =
      let bs : List ℕ = high_bytes 2 v in
      let size : length bs ≡ 2 = high_length 2 v in
      key_step key_name bs (with_name v) (omega arith) e (λ r. rw (two_left key_name bs 0 (λ i a b c d. omega arith), stored_two (key_of w j) key_name v (omega (arith, key_size_lem)) fits) refl)

  pub content_step : {w' : List ℕ} (x : Labelled) → Ranged x.value → Words64 x.labels → w' ≡ over w (body_at j) (record_bytes x) → Step j w w' (with_content (some x))
  unfolding slot_from with_content
  content_step {w'} x value set e =
      let bs : List ℕ = record_bytes x in
      let size : length bs ≡ record_size = record_length x in
      let start : w' ≡ over w (body_at j + 0) bs = e ∙ ap (λ (p : ℕ). over w p bs) (omega arith) in
      body_step 0 bs (with_content (some x)) (omega arith) start (λ r. rw (record_back (body_of w j) 0 x (omega (arith, body_size_lem)) value set, set_left 0 bs body_mark (λ i a b c d. omega arith)) refl)

  pub empty_step : {w' : List ℕ} → w' ≡ over w (kind_at (body_at j)) (high_bytes 1 0) → Step j w w' (with_content none)
  unfolding slot_from with_content
  empty_step e =
      let bs : List ℕ = high_bytes 1 0 in
      let size : length bs ≡ 1 = high_length 1 0 in
      body_step (kind_at 0) bs (with_content none) (omega arith) e (λ r. rw (record_emptied (body_of w j) 0 (omega (arith, body_size_lem)), set_left (kind_at 0) bs body_mark (λ i a b c d. omega arith)) refl)

  pub mark_step : {w' : List ℕ} (v : Labels) → Words64 v → w' ≡ over w (body_at j + body_mark) (label_bytes v) → Step j w w' (with_mark v)
  unfolding slot_from with_mark
  mark_step v fits e =
      let bs : List ℕ = label_bytes v in
      let size : length bs ≡ 32 = label_length v in
      body_step body_mark bs (with_mark v) (omega arith) e
      (λ r. rw (record_left body_mark bs 0 (λ i a b c d. omega arith), set_back (body_of w j) body_mark v (omega (arith, body_size_lem)) fits) refl)

-- ---- A run of stores as one change of the slots

-- what such a run leaves
module _ (j : ℕ) (w w' : List ℕ) (g : Slot → Slot) (below : j < 512) (step : Step j w w' g) where
  past : (k : ℕ) → trail_at ≤ k → byte w' k ≡ byte w k
  past k l = step.mine k (λ z. omega arith) (λ a b. omega arith) (λ a b. omega arith)

  pub step_beside : beside_slots w' ≡ beside_slots w
  step_beside = beside_same w w' step.size (λ k a b. past k a) (λ k i a b c. past (record_at k + i) (omega arith)) (λ k a. past k (omega arith))

  pub step_links : (q p : ℕ) → link_in w' q p ≡ link_in w q p
  step_links = links_same w w' (λ p b. same_two w w' (link_at p) (λ i h. past (link_at p + i) (omega arith))) (λ q b. same_two w w' (record_at q) (λ i h. past (record_at q + i) (omega arith)))

  pub step_fields : (i : ℕ) → i < 512 → (i ≡ j → ⊥) → (r : Bool) → fields_at w' i r ≡ fields_at w i r
  step_fields i l ne =
      same_fields_lem w w' i (step.mine i ne (λ a b. omega arith) (λ a b. omega arith)) (λ k p q. step.mine k (λ z. omega arith) (λ a b. ne (omega arith)) (λ a b. omega arith))
      (λ k p q. step.mine k (λ z. omega arith) (λ a b. omega arith) (λ a b. ne (omega arith)))

  pub step_chains : (i : ℕ) → i < 512 → (i ≡ j → ⊥) → chain_in w' i ≡ chain_in w i
  step_chains i l ne = sym (chain_fields w' i false) ∙ ap chain_for (step_fields i l ne false) ∙ chain_fields w i false

  pub step_chain : chain_in w' j ≡ chain_for (g (fields_at w j false))
  step_chain = sym (chain_fields w' j false) ∙ ap chain_for (step.own false)

-- `same` says that the run of field stores, which keeps the chain, is the change that the contract names
pub changed : (j : ℕ) (w w' : List ℕ) (g h : Slot → Slot) → j < 512 → Step j w w' g → ((x : Slot) → chain_for (g x) ≡ chain_for x) → ((x : Slot) → g x ≡ h x) → StoresAt j h w w'
unfolding slots_of
changed j w w' g h below step keeps same = (
  table_put 512 (slot_at w) (slot_at w') blank_slot j (h (slots_of w j)) below own (λ i l ne. same_slot w w' i (chain i l) (reached i l) (step_fields j w w' g below step i l ne)),
  step_beside j w w' g below step,
)
  where
    chain : (i : ℕ) → i < 512 → chain_in w' i ≡ chain_in w i
    chain i l = is_or_not i j (λ z. rw z (step_chain j w w' g below step ∙ keeps (fields_at w j false) ∙ chain_fields w j false)) (step_chains j w w' g below step i l)

    reached : (i : ℕ) → i < 512 → chained w' (chain_in w i) i ≡ chained w (chain_in w i) i
    reached i l = chains_same w w' chain (step_links j w w' g below step) (chain_in w i) i l

    own : slot_at w' j ≡ h (slots_of w j)
    own =
        slot_fields w' j ∙ ap (fields_at w' j) (ap (λ (n : ℕ). chained w' n j) (chain j below) ∙ reached j below) ∙ step.own (chained w (chain_in w j) j) ∙ same (fields_at w j (chained w (chain_in w j) j))
        ∙ ap h (sym (slot_fields w j) ∙ sym (slot_in_lem w j below))

-- one store after the other, at the same slot
pub stores_then : (j : ℕ) (w w' w'' : List ℕ) (g h k : Slot → Slot) → StoresAt j g w w' → StoresAt j h w' w'' → ((x : Slot) → h (g x) ≡ k x) → StoresAt j k w w''
stores_then j w w' w'' g h k a b same =
    (b.0 ∙ rw (a.0, put_same j (g (slots_of w j)) (slots_of w), put_put j (h (g (slots_of w j))) (g (slots_of w j)) (slots_of w), same (slots_of w j)) refl, b.1 ∙ a.1)

filled_by : (x : Labelled) (y : Slot) → with_content (some x) y ≡ filled x y
unfolding with_content filled
filled_by x (slot r t s n c m) = refl

filled_chain : (x : Labelled) (y : Slot) → chain_for (with_content (some x) y) ≡ chain_for y
unfolding chain_for with_content
filled_chain x (slot r t s n c m) = refl

marked_by : (k : Labels) (x : Slot) → with_mark k x ≡ marked k x
unfolding with_mark marked
marked_by k (slot r t s n c m) = refl

marked_chain : (k : Labels) (x : Slot) → chain_for (with_mark k x) ≡ chain_for x
unfolding chain_for with_mark
marked_chain k (slot r t s n c m) = refl

emptied_by : (x : Slot) → with_state 5 x ≡ emptied x
unfolding with_state emptied
emptied_by (slot r t s n c m) = refl

emptied_chain : (x : Slot) → chain_for (with_state 5 x) ≡ chain_for x
unfolding chain_for with_state
emptied_chain (slot r t s n c m) = refl

renewed_by : (x : Slot) → with_mark no_labels (with_content none (with_state 1 x)) ≡ renewed x
unfolding with_state with_content with_mark renewed
renewed_by (slot r t s n c m) = refl

renewed_chain : (x : Slot) → chain_for (with_mark no_labels (with_content none (with_state 1 x))) ≡ chain_for x
unfolding chain_for with_state with_content with_mark
renewed_chain (slot r t s n c m) = refl

pub renew_way : (w : List ℕ) (j : ℕ) {w1 w2 : List ℕ} (w3 : List ℕ) → j < 512 → 65536 ≤ length w → w1 ≡ over w j (high_bytes 1 1) → w2 ≡ over w1 (kind_at (body_at j)) (high_bytes 1 0)
    → w3 ≡ over w2 (body_at j + body_mark) (label_bytes no_labels) → StoresAt j renewed w w3
renew_way w j {w1} {w2} w3 below room e1 e2 e3 =
    let a : Step j w w1 (with_state 1) = state_step w j below room 1 (lit< tt) e1 in
    let b : Step j w w2 (λ x. with_content none (with_state 1 x)) = a then empty_step w1 j below (omega (arith, a.size)) e2 in
    let c : Step j w w3 (λ x. with_mark no_labels (with_content none (with_state 1 x))) = b then mark_step w2 j below (omega (arith, b.size)) no_labels words_none e3 in
    changed j w w3 (λ x. with_mark no_labels (with_content none (with_state 1 x))) renewed below c renewed_chain renewed_by

pub value_way : (w : List ℕ) (j : ℕ) (x : Labelled) {w1 : List ℕ} → j < 512 → 65536 ≤ length w → Ranged x.value → Words64 x.labels → w1 ≡ over w (body_at j) (record_bytes x)
    → StoresAt j (filled x) w w1
value_way w j x {w1} below room value set e = changed j w w1 (with_content (some x)) (filled x) below (content_step w j below room x value set e) (filled_chain x) (filled_by x)

pub mark_way : (w : List ℕ) (j : ℕ) (k : Labels) {w1 : List ℕ} → j < 512 → 65536 ≤ length w → Words64 k → w1 ≡ over w (body_at j + body_mark) (label_bytes k)
    → StoresAt j (marked k) w w1
mark_way w j k {w1} below room hk e = changed j w w1 (with_mark k) (marked k) below (mark_step w j below room k hk e) (marked_chain k) (marked_by k)

pub empty_way : (w : List ℕ) (j : ℕ) {w1 : List ℕ} → j < 512 → 65536 ≤ length w → w1 ≡ over w j (high_bytes 1 5)
    → StoresAt j emptied w w1
empty_way w j {w1} below room e = changed j w w1 (with_state 5) emptied below (state_step w j below room 5 (lit< tt) e) emptied_chain emptied_by

-- the store of the hint
pub hint_way : (w : List ℕ) (v : ℕ) {w1 : List ℕ} → w1 ≡ over w hint_at (high_bytes 2 v) → (slots_of w1 ≡ slots_of w) × (beside_slots w1 ≡ beside_slots w)
hint_way w v {w1} e =
    let size : length (high_bytes 2 v) ≡ 2 = high_length 2 v in
    let away : (k : ℕ) → (hint_at ≤ k → k < hint_at + 2 → ⊥) → byte w1 k ≡ byte w k = λ k apart. rw e (byte_outside w hint_at (high_bytes 2 v) k (λ a b. apart a (omega arith))) in (
      slots_same w w1 (λ k l. away k (λ a b. omega arith)) (λ q l. same_two w w1 (record_at q) (λ j h. away (record_at q + j) (λ a b. omega arith))) (λ k a b. away k (λ x y. omega arith)),
      beside_same w w1 (rw e (over_length w hint_at (high_bytes 2 v))) (λ k a b. away k (λ x y. omega arith)) (λ k j a b c. away (record_at k + j) (λ x y. omega arith)) (λ k a. away k (λ x y. omega arith)),
    )
