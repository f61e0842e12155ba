-- The tokens of a text. The end of the text and a malformed piece of it are tokens too, so that a fault is always at a token.
use Rattle.std.specs.Prelude.{ℕ, List, [], ◌∷◌, Bool, false, not, ◌||◌, eqb, ℤ}

pub data Token : Type 0 where
  word : List ℕ → Token  -- a word that is no keyword
  number : ℤ → Token
  text : List ℕ → Token  -- a string in quotes
  variable : List ℕ → Token  -- $x
  top_variable : List ℕ → Token  -- $::x
  class_variable : (class name : List ℕ) → Token  -- $::a::x
  mark : (kind : ℕ) → Token  -- what its kind alone tells: a sign, a keyword, the end, a malformed piece

-- ---- Kinds of tokens

abbrev pub a_word : ℕ
a_word = 0

abbrev pub a_number : ℕ
a_number = 1

abbrev pub a_text : ℕ
a_text = 2

abbrev pub a_variable : ℕ
a_variable = 3

-- a top variable or a class variable
abbrev pub a_qualified : ℕ
a_qualified = 4

abbrev pub end_of_text : ℕ
end_of_text = 5

abbrev pub malformed : ℕ
malformed = 6

-- { } ( ) [ ] : , => ? !
abbrev pub left_brace : ℕ
left_brace = 7

abbrev pub right_brace : ℕ
right_brace = 8

abbrev pub left_round : ℕ
left_round = 9

abbrev pub right_round : ℕ
right_round = 10

abbrev pub left_square : ℕ
left_square = 11

abbrev pub right_square : ℕ
right_square = 12

abbrev pub colon : ℕ
colon = 13

abbrev pub comma : ℕ
comma = 14

abbrev pub arrow : ℕ
arrow = 15

abbrev pub question : ℕ
question = 16

abbrev pub exclamation : ℕ
exclamation = 17

-- + - / > == = and or
abbrev pub plus_sign : ℕ
plus_sign = 18

abbrev pub minus_sign : ℕ
minus_sign = 19

abbrev pub slash : ℕ
slash = 20

abbrev pub above : ℕ
above = 21

abbrev pub two_equals : ℕ
two_equals = 22

abbrev pub equals : ℕ
equals = 23

abbrev pub and_word : ℕ
and_word = 24

abbrev pub or_word : ℕ
or_word = 25

-- the other keywords
abbrev pub true_word : ℕ
true_word = 26

abbrev pub false_word : ℕ
false_word = 27

abbrev pub default_word : ℕ
default_word = 28

abbrev pub if_word : ℕ
if_word = 29

abbrev pub else_word : ℕ
else_word = 30

abbrev pub case_word : ℕ
case_word = 31

abbrev pub class_word : ℕ
class_word = 32

abbrev pub include_word : ℕ
include_word = 33

abbrev pub node_word : ℕ
node_word = 34

abbrev pub define_word : ℕ
define_word = 35

abbrev pub inherits_word : ℕ
inherits_word = 36

abbrev pub kind : Token → ℕ
kind (word w) = a_word
kind (number z) = a_number
kind (text s) = a_text
kind (variable n) = a_variable
kind (top_variable n) = a_qualified
kind (class_variable c n) = a_qualified
kind (mark k) = k

abbrev pub is_among : ℕ → List ℕ → Bool
is_among k [] = false
is_among k (x ∷ xs) = eqb k x || is_among k xs

-- "a - directly before it where an operand, pattern or default may begin": everywhere but behind these
abbrev pub operand_ends : List ℕ
operand_ends = a_word ∷ a_number ∷ a_text ∷ a_variable ∷ a_qualified ∷ true_word ∷ false_word ∷ right_round ∷ right_square ∷ []

unfoldable pub operand_behind : (kind : ℕ) → Bool
operand_behind k = not (is_among k operand_ends)

-- a token where it stands in the text: the offset and the line of its first byte
pub data Lexeme : Type 0 where
  lexeme : (place line : ℕ) → Token → Lexeme

abbrev pub place_of : Lexeme → ℕ
place_of (lexeme p l t) = p

abbrev pub line_of : Lexeme → ℕ
line_of (lexeme p l t) = l

abbrev pub token_of : Lexeme → Token
token_of (lexeme p l t) = t
