-- The brackets of a form, as two forms of their own.
use Rattle.std.specs.Prelude.{ℕ, Bool, true, false, List, ◌∷◌}
use Rattle.notation.specs.Tokens.{Lexeme, left_round, right_round}
use Rattle.notation.specs.Print.{Rest, the}

-- a bracket of this kind, unless the form binds tightly enough
unfoldable pub bracket : (kind : ℕ) → (tight : Bool) → ℕ → Rest → List Lexeme
bracket k true v rest = rest v
bracket k false v rest = the v k ∷ rest v

abbrev pub opened : (tight : Bool) → ℕ → Rest → List Lexeme
opened tight v rest = bracket left_round tight v rest

abbrev pub closed : (tight : Bool) → ℕ → Rest → List Lexeme
closed tight v rest = bracket right_round tight v rest
