-- The digits of a number, made in a buffer that holds any of them. Assumes nothing.
use mathlib.Core.Path.{◌≡◌, sym, ap, ◌∙◌}
use mathlib.Core.List.{List, ◌++◌}
use Prim.Native.Nat.{ℕ, ◌≤◌}
use native.Mathlib.Omega.{arith}
use lib.IntN.{ℤ}
use lib.ListN.{length, take, drop, length-append}
use lib.Seq.{take_at}
use mir.Syntax.{w64}
use mir.Val.{SFits}
use Rattle.values.specs.Decimal.{signed_decimal, wrote, write_text}
use Rattle.values.proofs.Parts.{in_range_lem}
use Rattle.values.proofs.Digits.{text_fits, signed_short}

-- the text of a number at the start of a buffer
pub record Digits (text : List ℕ) (count : ℕ) (buffer : List ℕ) : Type 0 where
  pub within : count ≤ length buffer
  pub short : count ≤ 20
  pub whole : count ≡ length (take count buffer)
  pub is : take count buffer ≡ text

-- 20 bytes hold the text of any integer
pub digits_ready : (z : ℤ) (buffer : List ℕ) {y : ℤ} {count : ℕ} {b : List ℕ} → SFits w64 z → y ≡ z → length buffer ≡ 20 → wrote count b ≡ write_text (signed_decimal y) buffer → Digits (signed_decimal z) count b
digits_ready z buffer {y} {count} {b} h same room e =
    let fits : length (signed_decimal z) ≤ length buffer = omega (arith, signed_short z (in_range_lem z h)) in
    let there : wrote count b ≡ wrote (length (signed_decimal z)) (signed_decimal z ++ drop (length (signed_decimal z)) buffer) = (rw same at e) ∙ sym (text_fits (signed_decimal z) buffer fits) in
    let size : count ≡ length (signed_decimal z) = cc in
    let bytes : b ≡ signed_decimal z ++ drop (length (signed_decimal z)) buffer = cc in
    let is : take count b ≡ signed_decimal z = rw bytes (take_at (signed_decimal z) (drop (length (signed_decimal z)) buffer) count (sym size)) in
    record {
      within = omega (arith, ap length bytes, length-append (signed_decimal z) (drop (length (signed_decimal z)) buffer));
      short = omega (arith, size, fits, room);
      whole = size ∙ ap length (sym is);
      is = is;
    }
