-- A label set as 32 bytes: "Label n is bit n mod 8, lowest first, of byte n / 8".
use Rattle.std.specs.Prelude.{ℕ, zero, suc, ◌+◌, ◌*◌, ◌/◌, ◌%◌, List, [], ◌∷◌, ◌++◌, get_or, drop}
use Rattle.labels.specs.declared.Labels.{Labels}

-- the k lowest bytes of v, lowest first
unfoldable pub low_bytes : ℕ → ℕ → List ℕ
low_bytes zero v = []
low_bytes (suc k) v = v % 256 ∷ low_bytes k (v / 256)

-- the number in the k bytes of m from `at` on, lowest first; a byte past the end counts as 0
unfoldable pub number_at : List ℕ → ℕ → ℕ → ℕ
number_at m at zero = 0
number_at m at (suc k) = number_at m (suc at) k * 256 + get_or m at 0

-- the 32 bytes of a set
unfoldable pub label_bytes : Labels → List ℕ
label_bytes s = low_bytes 8 s.w0 ++ (low_bytes 8 s.w1 ++ (low_bytes 8 s.w2 ++ low_bytes 8 s.w3))

-- the set in the first 32 bytes
unfoldable pub labels_from : List ℕ → Labels
labels_from m = record { w0 = number_at m 0 8; w1 = number_at m 8 8; w2 = number_at m 16 8; w3 = number_at m 24 8 }

-- the set in the 32 bytes from p on
unfoldable pub set_at : List ℕ → ℕ → Labels
set_at m p = labels_from (drop p m)
