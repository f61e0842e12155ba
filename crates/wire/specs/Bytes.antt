-- Bytes and fields: "A field is a one-byte tag, a two-byte length and a body of that length."
use Rattle.std.specs.Prelude.{ℕ, zero, suc, ◌+◌, ◌*◌, ◌-◌, Bool, true, false, List, [], ◌∷◌, ltb, get_or}

-- one of two, by a test
abbrev pub pick {ℓ} : {A : Type ℓ} → Bool → A → A → A
pick true a b = a
pick false a b = b

-- the byte at p; past the end there are only zeros
abbrev pub byte : List ℕ → ℕ → ℕ
byte m p = get_or m p 0

-- "Wider numbers have the high byte first": two bytes from p on
unfoldable pub two : List ℕ → ℕ → ℕ
two m p = byte m p * 256 + byte m (p + 1)

-- where the field at p ends: the place of the next one
abbrev pub end_of : List ℕ → ℕ → ℕ
end_of m p = p + 3 + two m (p + 1)

-- the places of the fields from p up to e, by their lengths alone; k is at least how many they are
unfoldable pub fields_up : ℕ → List ℕ → ℕ → ℕ → List ℕ
fields_up zero m p e = []
fields_up (suc k) m p e = pick (ltb p e) (p ∷ fields_up k m (end_of m p) e) []

unfoldable pub fields_in : List ℕ → ℕ → ℕ → List ℕ
fields_in m p e = fields_up (e - p) m p e
