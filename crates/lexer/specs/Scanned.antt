-- What the lexer's loops find.
use Rattle.std.specs.Prelude.{ℕ, ◌+◌, ◌≤◌, ◌<◌, ◌≡◌, Bool, true, false, ◌&&◌, ◌||◌, List, ltb, eqb, length, get_or}
use Rattle.std.proofs.Math.Seq.{slice}
use Rattle.notation.specs.Lexing.{comment, in_top, in_word, is_space, line_behind}
use Rattle.lexer.specs.declared.Spot.{Spot}
use Rattle.lexer.specs.Found.{lex_from, tokens_from}

-- the bytes from `at` to r are in a word, and the one at r, if there is one, is not
pub record WordRun (t : List ℕ) (at r : ℕ) : Type 0 where
  pub low : at ≤ r
  pub high : r ≤ length t
  pub inside : (i : ℕ) → at ≤ i → i < r → in_word (get_or t i 0) ≡ true
  pub stops : r < length t → in_word (get_or t r 0) ≡ false

-- the comment that goes on at `at` goes on at r
pub record CommentPart (t : List ℕ) (at r : ℕ) : Type 0 where
  pub low : at ≤ r
  pub high : r ≤ length t
  pub goes_on : (o : Bool) (line : ℕ) → lex_from t at line (comment o) ≡ lex_from t r line (comment o)

-- a comment that goes on at `at` ends at r: there the tokens are as if it had been none
pub record CommentRun (t : List ℕ) (at r : ℕ) : Type 0 where
  pub low : at ≤ r
  pub high : r ≤ length t
  pub same_tokens : (o : Bool) (line : ℕ) → lex_from t at line (comment o) ≡ tokens_from t r line o

-- white space, or the # of a comment
abbrev pub is_gap : ℕ → Bool
is_gap c = is_space c || eqb c 0x23

-- the byte at `at`, white space or a whole comment, ends before r
pub record GapRun (t : List ℕ) (at r : ℕ) : Type 0 where
  pub low : at < r
  pub high : r ≤ length t
  pub same_tokens : (o : Bool) (line : ℕ) → tokens_from t at line o ≡ tokens_from t r (line_behind (get_or t at 0) line) o

-- the tokens from there on are the same, and neither white space nor a comment is left
pub record Skipped (t : List ℕ) (from to : Spot) : Type 0 where
  pub low : from.at ≤ to.at
  pub high : to.at ≤ length t
  pub line_low : from.line ≤ to.line
  pub line_bound : to.line ≤ to.at
  pub same_tokens : (o : Bool) → tokens_from t from.at from.line o ≡ tokens_from t to.at to.line o
  pub stops : to.at < length t → is_gap (get_or t to.at 0) ≡ false

-- ---- Variables

-- two colons at `at`
abbrev pub two_colons : List ℕ → (at : ℕ) → Bool
two_colons t at = ltb (at + 1) (length t) && (eqb (get_or t at 0) 0x3a && eqb (get_or t (at + 1) 0) 0x3a)

-- $::a stands from p on line l to e
pub record TopRead (t : List ℕ) (p l e : ℕ) : Type 0 where
  pub line_bound : l ≤ p
  pub some_byte : p + 3 < e
  pub run : WordRun t (p + 3) e
  pub same_tokens : (o : Bool) → tokens_from t p l o ≡ lex_from t e l (in_top p l (slice (p + 3) e t))
