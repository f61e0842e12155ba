-- A token that holds one string, by its kind.
use Rattle.std.specs.Prelude.{ℕ, List, eqb}
use Rattle.rules.specs.Bytes.{pick}
use Rattle.notation.specs.Tokens.{Token, word, text, variable, top_variable, a_word, a_text, a_variable}

-- every other kind is that of a top variable
abbrev pub holding : (kind : ℕ) → List ℕ → Token
holding k s = pick (eqb k a_word) (word s) (pick (eqb k a_text) (text s) (pick (eqb k a_variable) (variable s) (top_variable s)))
