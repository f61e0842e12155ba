-- What is left of a string of the text while it is read, and the order of two strings.
use Rattle.std.specs.Prelude.{ℕ, zero, suc, ◌<◌, ◌≤◌, ◌≡◌, Bool, ◌&&◌, List, [], ◌∷◌, eqb, ltb, length, drop, get_or}
use Rattle.rules.specs.Bytes.{pick}
use Rattle.rules.specs.Check.{ascends}
use Rattle.notation.specs.Lexing.{in_word}
use Rattle.notation.specs.Quoted.{unquoted, word_from}
use Rattle.std.specs.declared.cmp.Ordering.TheVariants.{Less, Equal, Greater}
use Rattle.std.specs.declared.cmp.Ordering.{Ordering}

-- what is left at p of a string in quotes; of a word, which has the quote 0
unfoldable pub rest_of : List ℕ → (quote p : ℕ) → List ℕ
rest_of t q p = pick (eqb q 0) (word_from (drop p t)) (unquoted (drop p t) q)

-- a string by the code of its first byte: 0 if there is none, else one more than the byte
unfoldable pub from_code : ℕ → List ℕ → List ℕ
from_code zero rest = []
from_code (suc b) rest = b ∷ rest

-- a step from p: the code of the byte there, at most that of the byte 255, and the place behind it
pub record Stepped (t : List ℕ) (quote p code behind : ℕ) : Type 0 where
  pub string : rest_of t quote p ≡ from_code code (rest_of t quote behind)
  pub onward : 0 < code → p < behind
  pub within : 0 < code → behind ≤ length t
  pub small : code ≤ 256

-- whether at p and at q two strings go on with the same letter, digit or underscore
unfoldable pub alike : List ℕ → (p q : ℕ) → Bool
alike t p q = ltb p (length t) && (ltb q (length t) && (eqb (get_or t p 0) (get_or t q 0) && in_word (get_or t p 0)))

-- which of two strings comes first
unfoldable pub order_of : List ℕ → List ℕ → Ordering
order_of s t = pick (ascends s t) Less (pick (ascends t s) Greater Equal)
