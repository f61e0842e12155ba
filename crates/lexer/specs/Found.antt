-- What the lexer's code finds: the next token of a text.
use Rattle.std.specs.Prelude.{ℕ, ◌+◌, ◌≤◌, ◌<◌, ◌≡◌, Bool, List, [], ◌∷◌, eqb, pos, length, drop}
use Rattle.std.proofs.Math.Option.{Option, none, some}
use Rattle.std.proofs.Math.Seq.{slice}
use Rattle.rules.specs.Bytes.{pick}
use Rattle.notation.specs.Tokens.{word, number, text, variable, top_variable, class_variable, mark, a_word, a_number, a_text, a_variable, a_qualified, end_of_text, malformed, operand_behind, Lexeme, lexeme}
use Rattle.notation.specs.Tokens as tokens
use Rattle.notation.specs.Quoted.{quoted_at, string_from}
use Rattle.notation.specs.Lexing.{Mode, lex, between}
use Rattle.lexer.specs.declared.Token.{Token}

-- ---- Tokens from a place on

-- the tokens of a text from `at` on, which is on this line, where the lexer is in mode m
abbrev pub lex_from : (text : List ℕ) → (at line : ℕ) → (m : Mode) → List Lexeme
lex_from t at line m = lex (drop at t) m at line

-- between two tokens; o: an operand may begin here
abbrev pub tokens_from : (text : List ℕ) → (at line : ℕ) → (o : Bool) → List Lexeme
tokens_from t at line o = lex_from t at line (between o)

-- ---- Tokens

-- the token that r stands for
unfoldable pub token_in : (text : List ℕ) → Token → tokens.Token
token_in t r =
    pick (eqb r.kind a_word) (word (slice r.start r.end t))
    (pick (eqb r.kind a_number) (number r.value)
    (pick (eqb r.kind a_text) (text (quoted_at t r.start))
    (pick (eqb r.kind a_variable) (variable (slice (r.start + 1) r.end t))
    (pick (eqb r.kind a_qualified)
    (pick (eqb r.class_end 0)
    (top_variable (slice (r.start + 3) r.end t))
    (class_variable (slice (r.start + 3) r.class_end t) (slice (r.class_end + 2) r.end t)))
    (mark r.kind)))))

-- a token that holds no class and no number, on one line
abbrev pub plain_token : (kind start line end : ℕ) → Token
plain_token k p l e = record { kind = k; start = p; line = l; end = e; line_behind = l; class_end = 0; value = pos 0 }

-- a sign of one byte, or none
abbrev pub sign_token : Option ℕ → (start line : ℕ) → Token
sign_token none p l = plain_token malformed p l p
sign_token (some k) p l = plain_token k p l (p + 1)

-- a name from a to b, as the string that begins at a
pub record Named (t : List ℕ) (a b : ℕ) : Type 0 where
  pub some_byte : a < b
  pub at_most_255 : b ≤ a + 255
  pub spelled : string_from t a ≡ slice a b t

-- the names and strings in a token are not too long, they begin where the code looks for them, and only $::a::x has a class
pub record Sized (t : List ℕ) (r : Token) : Type 0 where
  pub word_size : r.kind ≡ a_word → Named t r.start r.end
  pub variable_size : r.kind ≡ a_variable → Named t (r.start + 1) r.end
  pub top_size : r.kind ≡ a_qualified → r.class_end ≡ 0 → Named t (r.start + 3) r.end
  pub class_size : r.kind ≡ a_qualified → (r.class_end ≡ 0 → ⊥) → Named t (r.start + 3) r.class_end × Named t (r.class_end + 2) r.end
  pub no_class : (r.kind ≡ a_qualified → ⊥) → r.class_end ≡ 0
  pub text_size : r.kind ≡ a_text → length (quoted_at t r.start) ≤ 255
  pub text_spelled : r.kind ≡ a_text → string_from t r.start ≡ quoted_at t r.start

-- the tokens xs begin with x
pub record Begins (x : Lexeme) (xs : List Lexeme) : Type 0 where
  pub rest : List Lexeme
  pub begins : xs ≡ x ∷ rest

-- the next token from `at` on, which is on this line; o: an operand may begin here
pub record Found (t : List ℕ) (at line : ℕ) (o : Bool) (r : Token) : Type 0 where
  pub low : at ≤ r.start
  pub high : r.end ≤ length t
  pub forward : r.start ≤ r.end
  pub line_low : line ≤ r.line
  pub line_forward : r.line ≤ r.line_behind
  pub line_bound : r.line ≤ r.start
  pub line_behind_bound : r.line_behind ≤ r.end
  pub sized : Sized t r
  pub same_tokens : tokens_from t at line o ≡ tokens_from t r.start r.line o
  pub at_end : r.kind ≡ end_of_text → tokens_from t at line o ≡ lexeme r.start r.line (mark end_of_text) ∷ []
  pub at_fault : r.kind ≡ malformed → Begins (lexeme r.start r.line (mark malformed)) (tokens_from t at line o)
  pub some_byte : (r.kind ≡ end_of_text → ⊥) → (r.kind ≡ malformed → ⊥) → r.start < r.end
  pub first : (r.kind ≡ end_of_text → ⊥) → (r.kind ≡ malformed → ⊥)
      → tokens_from t at line o ≡ lexeme r.start r.line (token_in t r) ∷ tokens_from t r.end r.line_behind (operand_behind r.kind)
