-- A value is read back from its kind and its payload.
use mathlib.Core.Path.{◌≡◌, refl, ap}
use mathlib.Core.Bool.{Bool, true, false}
use mathlib.Core.List.{List}
use Prim.Native.Nat.{ℕ, ◌<◌, ◌^◌}
use native.Mathlib.Nat.{mod-eq_of_lt}
use native.Mathlib.Omega.{arith}
use lib.Dec.{eqb, lit<}
use lib.IntN.{ℤ}
use lib.Signed.{mag}
use mir.Facts.{to_z-of_z}
use mir.Syntax.{w64}
use mir.Val.{to_z, of_z}
use Rattle.values.specs.declared.Value.{Value}
use Rattle.values.specs.declared.Value.TheVariants.{Integer, String, Boolean}
use Rattle.wire.specs.Numbers.{word64, high_bytes}
use Rattle.wire.specs.Runs.{over}
use Rattle.wire.proofs.Laws.{word_lt, signed_back}
use Rattle.records.specs.Record.{kind_of, payload_of, value_from}

-- the range of a value, which its type has in code
pub data Ranged : Value → Type 0 where
  ranged_integer : {z : ℤ} → mag z < 9223372036854775808 → Ranged (Integer z)
  ranged_string : {n : ℕ} → n < 65536 → Ranged (String n)
  ranged_boolean : {b : Bool} → Ranged (Boolean b)

pub payload_lt : (v : Value) → Ranged v → payload_of v < 256 ^ 8
unfolding payload_of
payload_lt (Integer z) (ranged_integer h) = word_lt z h
payload_lt (String n) (ranged_string h) = omega arith
payload_lt (Boolean true) ranged_boolean = lit< tt
payload_lt (Boolean false) ranged_boolean = lit< tt

pub value_back : (v : Value) → Ranged v → value_from (kind_of v) (payload_of v) ≡ v
unfolding kind_of payload_of value_from
value_back (Integer z) (ranged_integer h) = ap Integer (signed_back z h)
value_back (String n) (ranged_string h) = ap String (mod-eq_of_lt h)
value_back (Boolean true) ranged_boolean = refl
value_back (Boolean false) ranged_boolean = refl

pub kind_lt : (v : Value) → kind_of v < 256
unfolding kind_of
kind_lt (Integer z) = lit< tt
kind_lt (String n) = lit< tt
kind_lt (Boolean b) = lit< tt

pub kind_some : (v : Value) → eqb (kind_of v) 0 ≡ false
unfolding kind_of
kind_some (Integer z) = refl
kind_some (String n) = refl
kind_some (Boolean b) = refl

-- put_payload
module _ (w : List ℕ) (p : ℕ) (v : Value) {w' : List ℕ} where
  pub integer_payload : {z : ℤ} → Ranged v → v ≡ Integer z → w' ≡ over w p (high_bytes 8 (word64 (to_z w64 (of_z w64 z)))) → w' ≡ over w p (high_bytes 8 (payload_of v))
  unfolding payload_of
  integer_payload {z} range e stored =
      let same : to_z w64 (of_z w64 z) ≡ z = to_z-of_z {w = w64} (record { sfits = integer_range (rw e at range) }) in
      let at_z : w' ≡ over w p (high_bytes 8 (word64 z)) = rw same at stored in
      rw e at_z
    where
      integer_range : {z : ℤ} → Ranged (Integer z) → mag z < 9223372036854775808
      integer_range (ranged_integer h) = h

  pub other_payload : {v' : Value} → v ≡ v' → w' ≡ over w p (high_bytes 8 (payload_of v')) → w' ≡ over w p (high_bytes 8 (payload_of v))
  other_payload e stored = rw e stored
