-- Numbers in bytes: read and written, unsigned and signed.
use Rattle.std.specs.Prelude.{ℕ, zero, suc, ◌+◌, ◌*◌, ◌-◌, ◌/◌, ◌%◌, ◌^◌, true, false, List, [], ◌∷◌, ltb, ℤ, pos, negsuc}

-- "Wider numbers have the high byte first"
unfoldable pub number : List ℕ → ℕ → ℕ
number [] n = n
number (b ∷ bs) n = number bs (n * 256 + b)

-- "signed ones are two's complement": 64 bits
unfoldable pub signed64 : ℕ → ℤ
signed64 n = elim (ltb n 9223372036854775808) [ true ↦ pos n | false ↦ negsuc (18446744073709551615 - n) ]

-- k bytes, the high one first
unfoldable pub high_bytes : ℕ → ℕ → List ℕ
high_bytes zero w = []
high_bytes (suc k) w = w / 256 ^ k % 256 ∷ high_bytes k w

-- "signed ones are two's complement"
unfoldable pub word64 : ℤ → ℕ
word64 (pos n) = n
word64 (negsuc n) = 18446744073709551615 - n
