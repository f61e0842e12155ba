-- Where a byte stands in a text.
use Rattle.std.specs.Prelude.{ℕ, suc, List, [], ◌∷◌, eqb}
use Rattle.wire.specs.Bytes.{pick}

-- the first place of a byte; the length if it is not there
unfoldable pub place_of : (wanted : ℕ) → (bytes : List ℕ) → ℕ
place_of b [] = 0
place_of b (c ∷ cs) = pick (eqb c b) 0 (suc (place_of b cs))
