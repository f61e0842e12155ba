-- What the lexer finds of strings.
use Rattle.std.specs.Prelude.{ℕ, ◌+◌, ◌≤◌, ◌≡◌, Bool, ◌&&◌, ◌||◌, List, [], ◌∷◌, ltb, eqb, length, get_or, drop, Option, Some, None}
use Rattle.rules.specs.Bytes.{pick}
use Rattle.notation.specs.Tokens.{mark, kind, malformed, operand_behind, lexeme}
use Rattle.notation.specs.Lexing.{text_token, in_string}
use Rattle.lexer.specs.declared.Quoted.{Quoted}
use Rattle.notation.specs.Quoted.{unquoted}
use Rattle.lexer.specs.Found.{lex_from, tokens_from, Begins}

-- the letter of an escape: \ ' " n
abbrev pub is_escape : ℕ → Bool
is_escape c = eqb c 0x5c || (eqb c 0x27 || (eqb c 0x22 || eqb c 0x6e))

abbrev pub escape_at : List ℕ → (at : ℕ) → Bool
escape_at t at = ltb at (length t) && is_escape (get_or t at 0)

-- how many bytes of a string at `at` stand for one: none for an escape that is malformed
abbrev pub piece_size : List ℕ → (at : ℕ) → Option ℕ
piece_size t at = pick (eqb (get_or t at 0) 0x5c) (pick (escape_at t (at + 1)) (Some 2) None) (Some 1)

-- the closed string whose opening quote stood before `at`
pub record StringRun (t : List ℕ) (at line quote : ℕ) (r : Quoted) : Type 0 where
  pub low : at ≤ r.end
  pub high : r.end ≤ length t
  pub line_low : line ≤ r.line
  pub line_bound : r.line ≤ r.end
  pub sized : length (unquoted (drop at t) quote) ≡ r.size
  pub whole : (p l : ℕ)
      → lex_from t at line (in_string p l quote []) ≡ lexeme p l (text_token (unquoted (drop at t) quote)) ∷ tokens_from t r.end r.line (operand_behind (kind (text_token (unquoted (drop at t) quote))))

-- the string, or that it is malformed
unfoldable pub StringRead : (t : List ℕ) → (at line quote : ℕ) → Option Quoted → Type 0
StringRead t at line quote (Some r) = StringRun t at line quote r
StringRead t at line quote None = (p l : ℕ) → Begins (lexeme p l (mark malformed)) (lex_from t at line (in_string p l quote []))
