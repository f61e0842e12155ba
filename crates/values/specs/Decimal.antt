-- Numbers as decimal text.
use Rattle.std.specs.Prelude.{ℕ, zero, suc, ◌+◌, ◌/◌, ◌%◌, true, false, List, [], ◌∷◌, ◌++◌, leb, ltb, ℤ, pos, negsuc, length, drop}

-- the decimal digits of n, before what follows; k + 1 is at least how many they are
unfoldable pub digits : ℕ → ℕ → List ℕ → List ℕ
digits zero n after = (48 + n % 10) ∷ after
digits (suc k) n after = elim (ltb n 10) [ true ↦ (48 + n) ∷ after | false ↦ digits k (n / 10) ((48 + n % 10) ∷ after) ]

unfoldable pub decimal : ℕ → List ℕ
decimal n = digits 20 n []

unfoldable pub signed_decimal : ℤ → List ℕ
signed_decimal (pos n) = decimal n
signed_decimal (negsuc n) = 45 ∷ decimal (suc n)

-- the last k digits of n, before what follows
unfoldable pub last_digits : ℕ → ℕ → List ℕ → List ℕ
last_digits zero n after = after
last_digits (suc k) n after = last_digits k (n / 10) ((48 + n % 10) ∷ after)

-- ---- A text at the start of a lent buffer

-- how many bytes were written, and what the whole buffer holds then
pub data Wrote : Type 0 where
  wrote : (count : ℕ) (buffer : List ℕ) → Wrote

-- what follows the text stays; a text that is longer than the buffer is not written, which 0 says
unfoldable pub write_text : List ℕ → List ℕ → Wrote
write_text text buffer = elim (leb (length text) (length buffer)) [ true ↦ wrote (length text) (text ++ drop (length text) buffer) | false ↦ wrote 0 buffer ]
