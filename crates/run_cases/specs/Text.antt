-- Numbers and bytes as text.
use Rattle.std.specs.Prelude.{ℕ, zero, suc, ◌+◌, ◌*◌, ◌-◌, ◌/◌, ◌%◌, ◌≤◌, min, ◌≡◌, List, [], ◌∷◌, ltb, leb, length, take}
use Rattle.wire.specs.Bytes.{byte, pick}

-- the first n of the bytes are n
abbrev pub IsPrefixLen : ℕ → List ℕ → Type 0
IsPrefixLen n xs = (n ≤ length xs) × (n ≡ length (take n xs))

-- the value of a hexadecimal digit, 0 to 9 and a to f; 16 for any other byte
unfoldable pub hex_value : ℕ → ℕ
hex_value b = pick (ltb b 48) 16 (pick (ltb b 58) (b - 48) (pick (ltb b 97) 16 (pick (ltb b 103) (b - 87) 16)))

unfoldable pub hex_digit : ℕ → ℕ
hex_digit v = pick (ltb v 10) (48 + v) (87 + v)

-- the byte that the two digits at i stand for; 256 where there are no two
unfoldable pub pair_at : List ℕ → ℕ → ℕ
pair_at text i = pick (leb (hex_value (byte text i)) 15) (pick (leb (hex_value (byte text (i + 1))) 15) (16 * hex_value (byte text i) + hex_value (byte text (i + 1))) 256) 256

-- the bytes that the pairs of digits from i on stand for, at most k
unfoldable pub pairs : ℕ → List ℕ → ℕ → List ℕ
pairs zero text i = []
pairs (suc k) text i = pick (leb (pair_at text i) 255) (pair_at text i ∷ pairs k text (i + 2)) []

-- two digits for each of the k bytes from n on
unfoldable pub hex_text : ℕ → List ℕ → ℕ → List ℕ
hex_text zero bytes n = []
hex_text (suc k) bytes n = hex_digit (byte bytes n / 16) ∷ (hex_digit (byte bytes n % 16) ∷ hex_text k bytes (n + 1))

-- n and the decimal digits at the start, or `most` where that is larger
unfoldable pub number_up_to : ℕ → List ℕ → ℕ → ℕ
number_up_to most [] n = n
number_up_to most (b ∷ bs) n = pick (leb (hex_value b) 9) (number_up_to most bs (min most (n * 10 + hex_value b))) n
