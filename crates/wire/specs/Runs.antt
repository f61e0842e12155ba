-- Runs of bytes: read from a place on, and stored from a place on. Both are total: past the end a byte reads as 0, and nothing is stored there.
use Rattle.std.specs.Prelude.{ℕ, zero, suc, List, [], ◌∷◌, set, replicate}
use Rattle.wire.specs.Bytes.{byte}

-- the k bytes from p on
unfoldable pub bytes_at : List ℕ → ℕ → ℕ → List ℕ
bytes_at m p zero = []
bytes_at m p (suc k) = byte m p ∷ bytes_at m (suc p) k

-- m with the bytes bs from p on
unfoldable pub over : List ℕ → ℕ → List ℕ → List ℕ
over m p [] = m
over m p (b ∷ bs) = over (set m p b) (suc p) bs

-- n bytes of 0
unfoldable pub zeros : ℕ → List ℕ
zeros n = replicate n 0
