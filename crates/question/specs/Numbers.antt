-- A number as decimal text: digits alone, no zero before another digit, and no number above a limit.
use Rattle.std.specs.Prelude.{ℕ, ◌+◌, List, [], ◌∷◌, eqb}
use Rattle.wire.specs.Bytes.{pick}
unfoldable pub use Rattle.input.specs.Numbers.{with_digit, spelled}

-- the number that a text spells; one above the limit where it spells none
unfoldable pub number_in : (most : ℕ) → (text : List ℕ) → ℕ
number_in most [] = most + 1
number_in most (c ∷ []) = spelled most (c ∷ []) 0
number_in most (c ∷ d ∷ cs) = pick (eqb c 48) (most + 1) (spelled most (c ∷ d ∷ cs) 0)
