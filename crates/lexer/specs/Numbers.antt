-- What the lexer finds of numbers.
use Rattle.std.specs.Prelude.{ℕ, zero, suc, ◌+◌, ◌-◌, ◌≤◌, ◌<◌, ◌≡◌, Bool, true, false, ◌&&◌, List, leb, ltb, ℤ, pos, negsuc, length, get_or}
use Rattle.rules.specs.Bytes.{pick}
use Rattle.notation.specs.Lexing.{is_digit, in_word, in_number}
use Rattle.lexer.specs.declared.Digits.{Digits}
use Rattle.lexer.specs.Found.{lex_from, tokens_from}

-- the digit c goes on with the number n: not behind a zero, and the next number is at most a little above 64 bits
abbrev pub more_digits : (c n : ℕ) → Bool
more_digits c n = is_digit c && (leb 1 n && leb n 922337203685477580)

-- the digits from `at` on, behind those of the number n
pub record DigitsRun (t : List ℕ) (at n : ℕ) (r : Digits) : Type 0 where
  pub low : at ≤ r.end
  pub high : r.end ≤ length t
  pub same_tokens : (p l : ℕ) (s : Bool) → lex_from t at l (in_number p l s n) ≡ lex_from t r.end l (in_number p l s r.value)
  pub stops : r.end < length t → more_digits (get_or t r.end 0) r.value ≡ false

-- a byte of a word at `at`
abbrev pub word_at : List ℕ → (at : ℕ) → Bool
word_at t at = ltb at (length t) && in_word (get_or t at 0)

-- the largest number that may stand behind a - or without one
abbrev pub largest_of : (negative : Bool) → ℕ
largest_of s = pick s 9223372036854775808 9223372036854775807

unfoldable pub signed_of : (negative : Bool) → ℕ → ℤ
signed_of false n = pos n
signed_of true zero = pos 0
signed_of true (suc n) = negsuc n

-- from `start` on a number is read, and `from` is the place of its first digit
pub record DigitRead (t : List ℕ) (start line : ℕ) (o : Bool) (from : ℕ) (negative : Bool) : Type 0 where
  pub same_tokens : tokens_from t start line o ≡ lex_from t (from + 1) line (in_number start line negative (get_or t from 0 - 0x30))
