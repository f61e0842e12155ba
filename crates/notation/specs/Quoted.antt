-- The strings of a text where they stand: what the bytes of a string in quotes mean, and the letters, digits and underscores of a word.
use Rattle.std.specs.Prelude.{ℕ, ◌+◌, List, [], ◌∷◌, eqb, get_or, drop}
use Rattle.rules.specs.Bytes.{pick}
use Rattle.notation.specs.Lexing.{is_quote, in_word}

-- the byte that stands behind the backslash of an escape, as it is meant
abbrev pub escape_of : ℕ → ℕ
escape_of c = pick (eqb c 0x6e) 0x0a c

-- what the bytes behind an opening quote mean, up to the closing one
unfoldable mutual
  pub unquoted : List ℕ → (quote : ℕ) → List ℕ
  unquoted [] q = []
  unquoted (c ∷ cs) q = pick (eqb c q) [] (pick (eqb c 0x5c) (unescaped cs q) (c ∷ unquoted cs q))

  pub unescaped : List ℕ → (quote : ℕ) → List ℕ
  unescaped [] q = []
  unescaped (c ∷ cs) q = escape_of c ∷ unquoted cs q

-- the string whose opening quote is at p
abbrev pub quoted_at : List ℕ → ℕ → List ℕ
quoted_at t p = unquoted (drop (p + 1) t) (get_or t p 0)

-- the bytes of a word, as far as they go
unfoldable pub word_from : List ℕ → List ℕ
word_from [] = []
word_from (c ∷ cs) = pick (in_word c) (c ∷ word_from cs) []

-- the string that begins at p: in quotes, or a word
unfoldable pub string_from : List ℕ → ℕ → List ℕ
string_from t p = pick (is_quote (get_or t p 0)) (quoted_at t p) (word_from (drop p t))
