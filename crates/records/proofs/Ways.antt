-- One law for each way through the functions.
use mathlib.Core.Path.{◌≡◌, refl, sym}
use mathlib.Core.Bool.{Bool, true, false}
use mathlib.Core.List.{List, ◌++◌}
use mathlib.Core.Option.{none, some}
use Prim.Native.Nat.{ℕ, suc, ◌+◌, ◌%◌}
use native.Mathlib.Omega.{arith}
use borrow.Author.Tests.{ne_eqb}
use lib.Dec.{eqb}
use lib.IntN.{ℤ}
use lib.ListN.{length, set}
use Rattle.wire.specs.Bytes.{pick, byte}
use Rattle.wire.specs.Numbers.{number, signed64, high_bytes}
use Rattle.wire.specs.Runs.{bytes_at, over}
use Rattle.wire.proofs.Laws.{then_store, high_length}
use Rattle.labels.specs.declared.Labels.{Labels}
use Rattle.labels.specs.Bytes.{label_bytes, set_at}
use Rattle.values.specs.declared.Value.{Value}
use Rattle.values.specs.declared.Value.TheVariants.{Integer, String, Boolean}
use Rattle.values.specs.declared.Labelled.{Labelled}
use Rattle.records.specs.Record.{kind_at, content_set_at, labelled, kind_of, payload_of, value_from, word_at, middle_bytes, record_bytes, record_in, is_empty, held_of}
use Rattle.std.specs.Prelude.{Some, None}

-- value_at
module _ (m : List ℕ) (t p : ℕ) where
  pub value_integer : {z : ℤ} → t ≡ 2 → z ≡ signed64 (number (bytes_at m p 8) 0) → Integer z ≡ value_from t (word_at m p)
  unfolding value_from word_at
  value_integer e ez = rw (e, ez) refl

  pub value_string : {n : ℕ} → (t ≡ 2 → ⊥) → n ≡ number (bytes_at m p 8) 0 → t ≡ 3 → String (n % 65536) ≡ value_from t (word_at m p)
  unfolding value_from word_at
  value_string ne en e = rw (e, en) refl

  pub value_boolean : {n : ℕ} → (t ≡ 2 → ⊥) → n ≡ number (bytes_at m p 8) 0 → (t ≡ 3 → ⊥) → Boolean (eqb n 1) ≡ value_from t (word_at m p)
  unfolding value_from word_at
  value_boolean ne en ne' = rw (ne_eqb t 2 ne, ne_eqb t 3 ne', en) refl

-- record_at, is_empty
module _ (m : List ℕ) (p : ℕ) {k : ℕ} (read : k ≡ byte m (kind_at p)) where
  pub read_nothing : k ≡ 0 → None ≡ held_of (record_in m p)
  unfolding held_of record_in
  read_nothing e = rw (sym read, e) refl

  pub read_value : {v : Value} {s : Labels} → (k ≡ 0 → ⊥) → v ≡ value_from k (word_at m p) → s ≡ set_at m (content_set_at p) → Some (labelled v s) ≡ held_of (record_in m p)
  unfolding held_of record_in
  read_value ne ev es = rw (sym read, ne_eqb k 0 ne, ev, es) refl

  pub read_empty : eqb k 0 ≡ is_empty (record_in m p)
  unfolding is_empty record_in
  read_empty = rw (sym read) (go (eqb k 0) (labelled (value_from k (word_at m p)) (set_at m (content_set_at p))))
    where
      go : (b : Bool) (x : Labelled) → b ≡ is_empty (pick b none (some x))
      go true x = refl
      go false x = refl

-- put_middle
pub middle_stored : (m : List ℕ) (p k : ℕ) → set (set (set (set (set (set (set (set m p 0) (p + 1) 0) (p + 2) 0) (p + 3) 0) (p + 4) k) (p + 5) 0) (p + 6) 0) (p + 7) 0 ≡ over m p (middle_bytes k)
unfolding over middle_bytes
middle_stored m p k =
    let one : suc p ≡ p + 1 = omega arith in
    let two : suc (p + 1) ≡ p + 2 = omega arith in
    let three : suc (p + 2) ≡ p + 3 = omega arith in
    let four : suc (p + 3) ≡ p + 4 = omega arith in
    let five : suc (p + 4) ≡ p + 5 = omega arith in
    let six : suc (p + 5) ≡ p + 6 = omega arith in
    let seven : suc (p + 6) ≡ p + 7 = omega arith in
    rw (one, two, three, four, five, six, seven) refl

-- put_record
middle_length : (k : ℕ) → length (middle_bytes k) ≡ 8
unfolding middle_bytes
middle_length k = refl

pub record_stored : (m : List ℕ) (p : ℕ) (x : Labelled) {k : ℕ} {m1 m2 m3 : List ℕ} → m1 ≡ over m p (high_bytes 8 (payload_of x.value)) → k ≡ kind_of x.value → m2 ≡ over m1 (p + 8) (middle_bytes k) → m3 ≡ over m2 (p + 16) (label_bytes x.labels)
    → m3 ≡ over m p (record_bytes x)
unfolding record_bytes
record_stored m p x {k} {m1} {m2} {m3} e1 is e2 e3 =
    let v : Value = x.value in
    let middle : m2 ≡ over m1 (p + 8) (middle_bytes (kind_of v)) = rw (sym is) e2 in
    let two : m3 ≡ over m1 (p + 8) (middle_bytes (kind_of v) ++ label_bytes x.labels) = then_store m1 (p + 8) (middle_bytes (kind_of v)) (p + 16) (label_bytes x.labels) middle e3 (omega (arith, middle_length (kind_of v))) in
    then_store m p (high_bytes 8 (payload_of v)) (p + 8) (middle_bytes (kind_of v) ++ label_bytes x.labels) e1 two (omega (arith, high_length 8 (payload_of v)))
