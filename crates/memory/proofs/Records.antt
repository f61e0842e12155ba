-- The records of names: each field store changes one field of one record, and nothing else; what that is for the state and the names.
use mathlib.Core.Path.{◌≡◌, refl, sym, ap, ◌∙◌}
use mathlib.Core.Bool.{Bool, true, false, not}
use mathlib.Core.List.{List}
use mathlib.Core.Option.{Option}
use Prim.Native.Nat.{ℕ, ◌+◌, ◌≤◌, ◌<◌}
use native.Mathlib.Omega.{arith}
use lib.Dec.{eqb, lit<}
use lib.ListN.{length}
use Rattle.wire.specs.Bytes.{byte, two}
use Rattle.wire.specs.Numbers.{high_bytes}
use Rattle.wire.specs.Runs.{bytes_at, over}
use Rattle.wire.proofs.Laws.{byte_in, two_in, over_in, run_length, over_length, byte_outside, run_outside, high_length, stored_byte, stored_two, two_same}
use Rattle.rules.specs.State.{DeclaredClass, Entry, one_if}
use Rattle.cells.specs.Layout.{record_at, put_at, NameRecord, name_record, blank_record, name_at, records_of, slots_of, trail_of, rest_of, name_definition, name_class, name_built_in, name_parent, name_size}
use Rattle.cells.specs.Memory.{class_in, definition_in, built_in_in, classes_of, definition_of, built_in_of, Names, names_of, state_of, Becomes}
use Rattle.cells.proofs.Tables.{table_in, table_put, put_map, put_kept}
use Rattle.cells.proofs.Regions.{names, same_two, same_name, trail_same, rest_same, cells_by, used_by}
use Rattle.cells.proofs.Slots.{slots_same}
use Rattle.memory.specs.Names.{with_definition, with_built_in}

-- a flag in a byte
one_small : (b : Bool) → one_if b < 256
unfolding one_if
one_small true = lit< tt
one_small false = lit< tt

one_back : (b : Bool) → not (eqb (one_if b) 0) ≡ b
unfolding one_if
one_back true = refl
one_back false = refl

pub record_in_lem : (w : List ℕ) (k : ℕ) → k < 1024 → records_of w k ≡ name_at w k
unfolding records_of
record_in_lem w k h = table_in 1024 (name_at w) blank_record k h

-- ---- A record by its eight bytes, of which the first two are the head of a chain

record_from : List ℕ → NameRecord
record_from m = name_record (two m 2) (byte m 4) (byte m 5) (two m 6)

abbrev run_of : List ℕ → ℕ → List ℕ
run_of w k = bytes_at w (record_at k) 8

record_run : (w : List ℕ) (k : ℕ) → name_at w k ≡ record_from (run_of w k)
unfolding name_at record_from
record_run w k =
    rw (
      two_in w (record_at k) 8 2 (omega arith),
      byte_in w (record_at k) 8 4 (omega arith),
      byte_in w (record_at k) 8 5 (omega arith),
      two_in w (record_at k) 8 6 (omega arith),
    )

-- ---- Stores in record k

-- record k goes by g, and nothing else changes, nor does its chain's head
pub record Filed (k : ℕ) (w w' : List ℕ) (g : NameRecord → NameRecord) : Type 0 where
  pub own : name_at w' k ≡ g (name_at w k)
  pub mine : (i : ℕ) → (record_at k + name_definition ≤ i → i < record_at k + name_size → ⊥) → byte w' i ≡ byte w i
  pub size : length w' ≡ length w

pub and_then : {k : ℕ} {w w' w'' : List ℕ} {g g' : NameRecord → NameRecord} → Filed k w w' g → Filed k w' w'' g' → Filed k w w'' (λ x. g' (g x))
and_then {g' = g'} a b = record { own = b.own ∙ ap g' a.own; mine = λ i out. b.mine i out ∙ a.mine i out; size = b.size ∙ a.size }

unfoldable pub definition_to : ℕ → NameRecord → NameRecord
definition_to v (name_record d t b q) = name_record v t b q

unfoldable pub class_to : ℕ → NameRecord → NameRecord
class_to v (name_record d t b q) = name_record d v b q

unfoldable pub built_in_to : ℕ → NameRecord → NameRecord
built_in_to v (name_record d t b q) = name_record d t v q

unfoldable pub parent_to : ℕ → NameRecord → NameRecord
parent_to v (name_record d t b q) = name_record d t b v

module _ (w : List ℕ) (k : ℕ) (below : k < 1024) (room : 65536 ≤ length w) where
  -- any store within the record
  filed : (o : ℕ) (bs : List ℕ) (g : NameRecord → NameRecord) {w' : List ℕ} → 2 ≤ o → o + length bs ≤ 8 → w' ≡ over w (record_at k + o) bs
      → record_from (over (run_of w k) o bs) ≡ g (record_from (run_of w k)) → Filed k w w' g
  filed o bs g past fits e field =
      rw e (record {
        own = record_run (over w (record_at k + o) bs) k ∙ ap record_from (over_in w (record_at k) 8 o bs fits (omega arith)) ∙ field ∙ ap g (sym (record_run w k));
        mine = λ i out. byte_outside w (record_at k + o) bs i (λ a b. out (omega arith) (omega arith));
        size = over_length w (record_at k + o) bs;
      })

  size : length (run_of w k) ≡ 8
  size = run_length w (record_at k) 8

  -- two bytes that a store at o does not meet
  two_left : (o : ℕ) (bs : List ℕ) (q : ℕ) → ((i : ℕ) → q ≤ i → i < q + 2 → o ≤ i → i < o + length bs → ⊥) → two (over (run_of w k) o bs) q ≡ two (run_of w k) q
  two_left o bs q apart = two_same (over (run_of w k) o bs) (run_of w k) q q (run_outside (run_of w k) o bs q 2 apart)

  byte_left : (o : ℕ) (bs : List ℕ) (q : ℕ) → (o ≤ q → q < o + length bs → ⊥) → byte (over (run_of w k) o bs) q ≡ byte (run_of w k) q
  byte_left o bs q apart = byte_outside (run_of w k) o bs q apart

  pub definition_filed : {w' : List ℕ} (v : ℕ) → v < 65536 → w' ≡ over w (record_at k + name_definition) (high_bytes 2 v) → Filed k w w' (definition_to v)
  unfolding record_from definition_to
  definition_filed v fits e =
      let bs : List ℕ = high_bytes 2 v in
      let two_bytes : length bs ≡ 2 = high_length 2 v in
      filed 2 bs (definition_to v) (omega arith) (omega arith) e
      (rw (
        stored_two (run_of w k) 2 v (omega (arith, size)) fits,
        byte_left 2 bs 4 (λ a b. omega arith),
        byte_left 2 bs 5 (λ a b. omega arith),
        two_left 2 bs 6 (λ i a b c d. omega arith),
      ) refl)

  pub class_filed : {w' : List ℕ} (v : ℕ) → v < 256 → w' ≡ over w (record_at k + name_class) (high_bytes 1 v) → Filed k w w' (class_to v)
  unfolding record_from class_to
  class_filed v fits e =
      let bs : List ℕ = high_bytes 1 v in
      let one_byte : length bs ≡ 1 = high_length 1 v in
      filed 4 bs (class_to v) (omega arith) (omega arith) e
      (rw (
        two_left 4 bs 2 (λ i a b c d. omega arith),
        stored_byte (run_of w k) 4 v (omega (arith, size)) fits,
        byte_left 4 bs 5 (λ a b. omega arith),
        two_left 4 bs 6 (λ i a b c d. omega arith),
      ) refl)

  pub built_in_filed : {w' : List ℕ} (v : ℕ) → v < 256 → w' ≡ over w (record_at k + name_built_in) (high_bytes 1 v) → Filed k w w' (built_in_to v)
  unfolding record_from built_in_to
  built_in_filed v fits e =
      let bs : List ℕ = high_bytes 1 v in
      let one_byte : length bs ≡ 1 = high_length 1 v in
      filed 5 bs (built_in_to v) (omega arith) (omega arith) e
      (rw (
        two_left 5 bs 2 (λ i a b c d. omega arith),
        byte_left 5 bs 4 (λ a b. omega arith),
        stored_byte (run_of w k) 5 v (omega (arith, size)) fits,
        two_left 5 bs 6 (λ i a b c d. omega arith),
      ) refl)

  pub parent_filed : {w' : List ℕ} (v : ℕ) → v < 65536 → w' ≡ over w (record_at k + name_parent) (high_bytes 2 v) → Filed k w w' (parent_to v)
  unfolding record_from parent_to
  parent_filed v fits e =
      let bs : List ℕ = high_bytes 2 v in
      let two_bytes : length bs ≡ 2 = high_length 2 v in
      filed 6 bs (parent_to v) (omega arith) (omega arith) e
      (rw (
        two_left 6 bs 2 (λ i a b c d. omega arith),
        byte_left 6 bs 4 (λ a b. omega arith),
        byte_left 6 bs 5 (λ a b. omega arith),
        stored_two (run_of w k) 6 v (omega (arith, size)) fits,
      ) refl)

-- ---- What a change of one record is for the whole memory

module _ (k : ℕ) (w w' : List ℕ) (g : NameRecord → NameRecord) (below : k < 1024) (step : Filed k w w' g) where
  pub records_put : records_of w' ≡ put_at k (g (records_of w k)) (records_of w)
  unfolding records_of
  records_put =
      table_put 1024 (name_at w) (name_at w') blank_record k (g (records_of w k)) below (step.own ∙ ap g (sym (record_in_lem w k below)))
      (λ i l ne. same_name w w' i (λ j h u. step.mine (record_at i + j) (λ a b. ne (omega arith))))

  pub slots_kept : slots_of w' ≡ slots_of w
  slots_kept = slots_same w w' (λ i l. step.mine i (λ a b. omega arith)) (λ q l. same_two w w' (record_at q) (λ j h. step.mine (record_at q + j) (λ a b. omega arith))) (λ i l u. step.mine i (λ a b. omega arith))

  trail_kept : trail_of w' ≡ trail_of w
  trail_kept = trail_same w w' (λ i l u. step.mine i (λ a b. omega arith))

  pub rest_kept : rest_of w' ≡ rest_of w
  rest_kept = rest_same w w' step.size (λ i l. step.mine i (λ a b. omega arith))

  -- what is read off every record
  module _ {A : Type 0} (read : NameRecord → A) where
    pub read_kept : read (g (records_of w k)) ≡ read (records_of w k) → ◌≡◌ {A = ℕ → A} (λ i. read (records_of w' i)) (λ i. read (records_of w i))
    read_kept e = ap {B = ℕ → A} (λ (f : ℕ → NameRecord) (i : ℕ). read (f i)) records_put ∙ put_kept read k (g (records_of w k)) (records_of w) e

    pub read_put : (v : A) → read (g (records_of w k)) ≡ v → ◌≡◌ {A = ℕ → A} (λ i. read (records_of w' i)) (put_at k v (λ i. read (records_of w i)))
    read_put v e = ap {B = ℕ → A} (λ (f : ℕ → NameRecord) (i : ℕ). read (f i)) records_put ∙ put_map read k (g (records_of w k)) (records_of w) ∙ ap (λ (x : A). put_at k x (λ i. read (records_of w i))) e

  -- the two fields of the names
  pub names_are : (d : ℕ → ℕ) (b : ℕ → Bool) → ◌≡◌ {A = ℕ → ℕ} (λ i. definition_in (records_of w' i)) d → ◌≡◌ {A = ℕ → Bool} (λ i. built_in_in (records_of w' i)) b → names_of w' ≡ names d b
  unfolding names_of definition_of built_in_of
  names_are d b ed eb = ap (λ (x : ℕ → ℕ). names x (λ i. built_in_in (records_of w' i))) ed ∙ ap (names d) eb

  pub state_is : (es : List Entry) (n r : ℕ) (c : ℕ → Option DeclaredClass) → classes_of w' ≡ c
      → state_of w' es n r ≡ record { cells = (state_of w es n r).cells; used = (state_of w es n r).used; classes = c; trail = (state_of w es n r).trail; entries = es; steps_left = n; room = r }
  unfolding state_of
  state_is es n r c e = rw (cells_by w w' slots_kept, used_by w w' slots_kept, e, trail_kept) refl

  -- where no class changes
  pub names_become : (rename : Names → Names) → ((x : NameRecord) → class_in (g x) ≡ class_in x) → names_of w' ≡ rename (names_of w) → Becomes w w' (λ st. st) rename
  unfolding state_of classes_of
  names_become rename same e = record {
    state = λ es n r. state_is es n r (classes_of w) (read_kept class_in (same (records_of w k)));
    names = e;
    rest = rest_kept;
    fine = λ f. rw slots_kept f;
  }

-- ---- The ways

pub by_record : (P : NameRecord → Type 0) → ((d t b q : ℕ) → P (name_record d t b q)) → (x : NameRecord) → P x
by_record P each (name_record d t b q) = each d t b q

module _ (w : List ℕ) (k : ℕ) (room : 65536 ≤ length w) (below : k < 1024) where
  pub definition_way : (v : ℕ) (w' : List ℕ) → v < 65536 → w' ≡ over w (record_at k + name_definition) (high_bytes 2 v) → Becomes w w' (λ st. st) (with_definition k v)
  unfolding with_definition names_of definition_of built_in_of definition_to class_in definition_in built_in_in
  definition_way v w' fits e =
      let g : NameRecord → NameRecord = definition_to v in
      let step : Filed k w w' g = definition_filed w k below room v fits e in
      names_become k w w' g below step (with_definition k v) (by_record (λ x. class_in (g x) ≡ class_in x) (λ d t b q. refl))
      (names_are k w w' g below step (put_at k v (definition_of w)) (built_in_of w)
      (read_put k w w' g below step definition_in v (by_record (λ x. definition_in (g x) ≡ v) (λ d t b q. refl) (records_of w k)))
      (read_kept k w w' g below step built_in_in (by_record (λ x. built_in_in (g x) ≡ built_in_in x) (λ d t b q. refl) (records_of w k))))

  pub built_in_way : (v : Bool) (w' : List ℕ) → w' ≡ over w (record_at k + name_built_in) (high_bytes 1 (one_if v)) → Becomes w w' (λ st. st) (with_built_in k v)
  unfolding with_built_in names_of definition_of built_in_of built_in_to class_in definition_in built_in_in
  built_in_way v w' e =
      let g : NameRecord → NameRecord = built_in_to (one_if v) in
      let step : Filed k w w' g = built_in_filed w k below room (one_if v) (one_small v) e in
      names_become k w w' g below step (with_built_in k v) (by_record (λ x. class_in (g x) ≡ class_in x) (λ d t b q. refl))
      (names_are k w w' g below step (definition_of w) (put_at k v (built_in_of w))
      (read_kept k w w' g below step definition_in (by_record (λ x. definition_in (g x) ≡ definition_in x) (λ d t b q. refl) (records_of w k)))
      (read_put k w w' g below step built_in_in v (by_record (λ x. built_in_in (g x) ≡ v) (λ d t b q. one_back v) (records_of w k))))

  -- reads
  pub definition_read : {r : ℕ} → r ≡ two w (record_at k + name_definition) → r ≡ definition_of w k
  unfolding definition_of definition_in name_at
  definition_read e = rw (record_in_lem w k below) e

  pub built_in_read : {r : ℕ} → r ≡ byte w (record_at k + name_built_in) → not (eqb r 0) ≡ built_in_of w k
  unfolding built_in_of built_in_in name_at
  built_in_read e = rw (record_in_lem w k below, e) refl
