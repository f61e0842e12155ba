-- Sets of names: sixteen words, in which name n is bit n % 64 of word n / 64.
use Rattle.std.specs.Prelude.{ℕ, ◌+◌, ◌/◌, ◌%◌, ◌^◌, Bool, ◌&&◌, List, eqb, get_or}
use Rattle.std.specs.Int.Bits.{bit_or}

-- whether the bit of name n is set in its word
unfoldable pub bit_in : (word n : ℕ) → Bool
bit_in w n = eqb (w / 2 ^ (n % 64) % 2) 1

-- whether a name is in the set
unfoldable pub contains : List ℕ → ℕ → Bool
contains s n = bit_in (get_or s (n / 64) 0) n

-- whether a name is in it by word i, which is w
unfoldable pub in_word : (i w : ℕ) → ℕ → Bool
in_word i w n = eqb (n / 64) i && bit_in w n

-- four words joined, from word i on
abbrev pub four_from : List ℕ → (i : ℕ) → ℕ
four_from s i = bit_or (bit_or (bit_or (get_or s i 0) (get_or s (i + 1) 0)) (get_or s (i + 2) 0)) (get_or s (i + 3) 0)

-- whether no word of the sixteen has a bit: the set then holds no name
unfoldable pub holds_none : List ℕ → Bool
holds_none s = eqb (bit_or (bit_or (bit_or (four_from s 0) (four_from s 4)) (four_from s 8)) (four_from s 12)) 0
