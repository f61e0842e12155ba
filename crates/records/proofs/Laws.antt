-- THE LAWS of records: one depends on its 48 bytes alone, one that was put is read back, and a store elsewhere leaves it. Assumes nothing.
use mathlib.Core.Path.{◌≡◌, refl, sym, ap, ◌∙◌}
use mathlib.Core.List.{List, [], append-nil}
use mathlib.Core.Option.{Option, none, some}
use Prim.Native.Nat.{ℕ, ◌+◌, ◌≤◌, ◌<◌}
use native.Mathlib.Nat.{add-zero}
use native.Mathlib.Omega.{arith}
use lib.Dec.{lit<}
use lib.ListN.{length}
use Rattle.wire.specs.Bytes.{byte}
use Rattle.wire.specs.Numbers.{high_bytes}
use Rattle.wire.specs.Runs.{bytes_at, over}
use Rattle.wire.proofs.Laws.{byte_in, run_in, run_back, run_outside, number_back, stored_byte}
use Rattle.labels.specs.Sets.{Words64}
use Rattle.labels.specs.Bytes.{label_bytes, labels_from, set_at}
use Rattle.labels.proofs.Laws.{label_length, label_back}
use Rattle.labels.proofs.Places.{set_in}
use Rattle.values.specs.declared.Labelled.{Labelled}
use Rattle.records.specs.Record.{kind_at, kind_of, payload_of, word_at, middle_bytes, record_bytes, record_in, held_of}
use Rattle.records.proofs.Values.{Ranged, payload_lt, value_back, kind_some}
use Rattle.std.specs.Prelude.{Option as CodeOption, Some, None}

-- ---- A record by its bytes

record_run : (m : List ℕ) (p : ℕ) → record_in m p ≡ record_in (bytes_at m p 48) 0
unfolding record_in word_at
record_run m p =
    rw (
      byte_in m p 48 12 (lit< tt),
      run_in m p 48 0 8 (omega arith),
      set_in m p 48 16 (omega arith),
      add-zero p,
    ) refl

pub record_same : (m m' : List ℕ) (p q : ℕ) → bytes_at m p 48 ≡ bytes_at m' q 48 → record_in m p ≡ record_in m' q
record_same m m' p q same = record_run m p ∙ ap (λ (l : List ℕ). record_in l 0) same ∙ sym (record_run m' q)

-- a record within a run
pub record_in_lem : (m : List ℕ) (p n o : ℕ) → o + 48 ≤ n → record_in (bytes_at m p n) o ≡ record_in m (p + o)
record_in_lem m p n o h = record_same (bytes_at m p n) m o (p + o) (run_in m p n o 48 h)

-- ---- What is put

pub record_length : (x : Labelled) → length (record_bytes x) ≡ 48
unfolding record_bytes middle_bytes high_bytes
record_length x = omega (arith, label_length x.labels)

word_back : (x : Labelled) → Ranged x.value → word_at (record_bytes x) 0 ≡ payload_of x.value
unfolding word_at record_bytes middle_bytes bytes_at high_bytes
word_back x h = number_back 8 (payload_of x.value) (payload_lt x.value h)

set_back : (x : Labelled) → Words64 x.labels → set_at (record_bytes x) 16 ≡ x.labels
unfolding set_at record_bytes middle_bytes high_bytes
set_back x h = ap labels_from (sym (append-nil (label_bytes x.labels))) ∙ label_back x.labels [] h

kind_back : (x : Labelled) → byte (record_bytes x) 12 ≡ kind_of x.value
unfolding record_bytes middle_bytes high_bytes
kind_back x = refl

whole_back : (x : Labelled) → Ranged x.value → Words64 x.labels → record_in (record_bytes x) 0 ≡ some x
unfolding record_in
whole_back x value set = rw (kind_back x, word_back x value, set_back x set, kind_some x.value, value_back x.value value) refl

pub record_back : (m : List ℕ) (p : ℕ) (x : Labelled) → p + 48 ≤ length m → Ranged x.value → Words64 x.labels → record_in (over m p (record_bytes x)) p ≡ some x
record_back m p x room value set =
    let size : length (record_bytes x) ≡ 48 = record_length x in
    let run : bytes_at (over m p (record_bytes x)) p 48 ≡ record_bytes x = ap (bytes_at (over m p (record_bytes x)) p) (sym size) ∙ run_back m p (record_bytes x) (omega arith) in
    record_run (over m p (record_bytes x)) p ∙ ap (λ (l : List ℕ). record_in l 0) run ∙ whole_back x value set

-- a store elsewhere
pub record_outside : (m : List ℕ) (p : ℕ) (bs : List ℕ) (q : ℕ) → ((i : ℕ) → q ≤ i → i < q + 48 → p ≤ i → i < p + length bs → ⊥) → record_in (over m p bs) q ≡ record_in m q
record_outside m p bs q apart = record_same (over m p bs) m q q (run_outside m p bs q 48 apart)

-- ---- Nothing

pub record_none : (m : List ℕ) (p : ℕ) → byte m (kind_at p) ≡ 0 → record_in m p ≡ none
unfolding record_in
record_none m p e = rw e refl

pub record_emptied : (m : List ℕ) (p : ℕ) → p + 48 ≤ length m → record_in (over m (kind_at p) (high_bytes 1 0)) p ≡ none
record_emptied m p room = record_none (over m (kind_at p) (high_bytes 1 0)) p (stored_byte m (kind_at p) 0 (omega arith) (lit< tt))

-- ---- What a read tells

pub held_value : {h : CodeOption Labelled} (o : Option Labelled) {x : Labelled} → h ≡ held_of o → h ≡ Some x → o ≡ some x
unfolding held_of
held_value none read is = absurd (let z : ◌≡◌ {A = ℕ} 0 1 = cc in omega arith)
held_value (some y) read is = ap some cc

pub held_nothing : {h : CodeOption Labelled} (o : Option Labelled) → h ≡ held_of o → h ≡ None → o ≡ none
unfolding held_of
held_nothing none read is = refl
held_nothing (some y) read is = absurd (let z : ◌≡◌ {A = ℕ} 0 1 = cc in omega arith)
