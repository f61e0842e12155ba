-- A text as tokens: a machine that goes over the bytes, one step for each byte. It never fails: a malformed piece is a token.
use Rattle.std.specs.Prelude.{ℕ, zero, suc, ◌+◌, ◌*◌, ◌-◌, List, [], ◌∷◌, ◌++◌, Bool, true, false, ◌&&◌, ◌||◌, leb, eqb, pos, negsuc, length}
use Rattle.std.proofs.Math.Option.{Option, none, some}
use Rattle.rules.specs.Bytes.{pick}
use Rattle.rules.specs.Compile.{same_bytes}
use Rattle.notation.specs.Tokens.{Token, word, number, text, variable, top_variable, class_variable, mark, kind, operand_behind, Lexeme, lexeme, end_of_text, malformed, left_brace, right_brace, left_round, right_round, left_square, right_square, colon, comma, arrow, question, exclamation, plus_sign, minus_sign, slash, above, two_equals, equals, and_word, or_word, true_word, false_word, default_word, if_word, else_word, case_word, class_word, include_word, node_word, define_word, inherits_word}

-- what a list has for k
abbrev pub find {ℓ} : {A : Type ℓ} → ℕ → List (ℕ × A) → Option A
find k [] = none
find k (x ∷ xs) = pick (eqb k x.0) (some x.1) (find k xs)

-- ---- Bytes

abbrev pub within : ℕ → ℕ → ℕ → Bool
within a b c = leb a c && leb c b

-- "White space is 20, 09, 0D, 0A"
abbrev pub is_space : ℕ → Bool
is_space c = eqb c 0x20 || (eqb c 0x09 || (eqb c 0x0d || eqb c 0x0a))

-- "A letter is a to z everywhere"
abbrev pub is_letter : ℕ → Bool
is_letter c = within 0x61 0x7a c

abbrev pub is_digit : ℕ → Bool
is_digit c = within 0x30 0x39 c

-- "letters, digits, underscores"
abbrev pub in_word : ℕ → Bool
in_word c = is_letter c || (is_digit c || eqb c 0x5f)

unfoldable pub is_quote : ℕ → Bool
is_quote c = eqb c 0x27 || eqb c 0x22

-- signs of one byte that begin no other token
abbrev pub signs : List (ℕ × ℕ)
signs =
    (0x7b, left_brace) ∷ (0x7d, right_brace) ∷ (0x28, left_round) ∷ (0x29, right_round) ∷ (0x5b, left_square) ∷ (0x5d, right_square) ∷ (0x3a, colon)
    ∷ (0x2c, comma) ∷ (0x2b, plus_sign) ∷ (0x2d, minus_sign) ∷ (0x2f, slash) ∷ (0x3e, above) ∷ (0x21, exclamation) ∷ (0x3f, question) ∷ []

-- "\\ \' \" \n (0A) are the escapes"
abbrev pub escapes : List (ℕ × ℕ)
escapes = (0x5c, 0x5c) ∷ (0x27, 0x27) ∷ (0x22, 0x22) ∷ (0x6e, 0x0a) ∷ []

-- ---- Words

-- "Keywords: and case class default define else false if include inherits node or true"
abbrev pub keywords : List (List ℕ × ℕ)
keywords =
    (0x61 ∷ 0x6e ∷ 0x64 ∷ [], and_word)  -- and
    ∷ (0x63 ∷ 0x61 ∷ 0x73 ∷ 0x65 ∷ [], case_word)  -- case
    ∷ (0x63 ∷ 0x6c ∷ 0x61 ∷ 0x73 ∷ 0x73 ∷ [], class_word)  -- class
    ∷ (0x64 ∷ 0x65 ∷ 0x66 ∷ 0x61 ∷ 0x75 ∷ 0x6c ∷ 0x74 ∷ [], default_word)  -- default
    ∷ (0x64 ∷ 0x65 ∷ 0x66 ∷ 0x69 ∷ 0x6e ∷ 0x65 ∷ [], define_word)  -- define
    ∷ (0x65 ∷ 0x6c ∷ 0x73 ∷ 0x65 ∷ [], else_word)  -- else
    ∷ (0x66 ∷ 0x61 ∷ 0x6c ∷ 0x73 ∷ 0x65 ∷ [], false_word)  -- false
    ∷ (0x69 ∷ 0x66 ∷ [], if_word)  -- if
    ∷ (0x69 ∷ 0x6e ∷ 0x63 ∷ 0x6c ∷ 0x75 ∷ 0x64 ∷ 0x65 ∷ [], include_word)  -- include
    ∷ (0x69 ∷ 0x6e ∷ 0x68 ∷ 0x65 ∷ 0x72 ∷ 0x69 ∷ 0x74 ∷ 0x73 ∷ [], inherits_word)  -- inherits
    ∷ (0x6e ∷ 0x6f ∷ 0x64 ∷ 0x65 ∷ [], node_word)  -- node
    ∷ (0x6f ∷ 0x72 ∷ [], or_word)  -- or
    ∷ (0x74 ∷ 0x72 ∷ 0x75 ∷ 0x65 ∷ [], true_word)  -- true
    ∷ []

unfoldable pub keyword_in : List (List ℕ × ℕ) → List ℕ → Option ℕ
keyword_in [] w = none
keyword_in (x ∷ xs) w = pick (same_bytes w x.0) (some x.1) (keyword_in xs w)

abbrev pub word_or : List ℕ → Option ℕ → Token
word_or w none = word w
word_or w (some k) = mark k

-- "at most 255 bytes"
abbrev pub up_to255 : List ℕ → Token → Token
up_to255 w t = pick (leb (length w) 255) t (mark malformed)

unfoldable pub word_token : List ℕ → Token
word_token w = up_to255 w (word_or w (keyword_in keywords w))

-- "A name is a word that is no keyword": a token with the name w, or a malformed one
abbrev pub if_no_keyword : Option ℕ → Token → Token
if_no_keyword none t = t
if_no_keyword (some k) t = mark malformed

unfoldable pub name_token : List ℕ → Token → Token
name_token w t = up_to255 w (if_no_keyword (keyword_in keywords w) t)

-- ---- Numbers and strings

-- the number of the digits read, behind a `-` or not: "a number outside 64 bits" is malformed; "-0 is 0"
unfoldable pub signed_token : (negative : Bool) → ℕ → Token
signed_token false n = pick (leb n 9223372036854775807) (number (pos n)) (mark malformed)
signed_token true zero = number (pos 0)
signed_token true (suc n) = pick (leb n 9223372036854775807) (number (negsuc n)) (mark malformed)

unfoldable pub text_token : List ℕ → Token
text_token s = up_to255 s (text s)

-- ---- The machine

-- what is being read, with the place and the line of its first byte
pub data Mode : Type 0 where
  between : (operand : Bool) → Mode  -- no token; whether an operand may begin here
  comment : (operand : Bool) → Mode
  in_name : (p l : ℕ) → List ℕ → Mode
  behind_dollar : (p l : ℕ) → Mode  -- $
  in_variable : (p l : ℕ) → List ℕ → Mode  -- $x
  behind_dollar_colon : (p l : ℕ) → Mode  -- $:
  behind_top : (p l : ℕ) → Mode  -- $::
  in_top : (p l : ℕ) → List ℕ → Mode  -- $::x
  behind_top_colon : (p l : ℕ) → List ℕ → (colon_place colon_line : ℕ) → Mode  -- $::a and a colon
  behind_class : (p l : ℕ) → List ℕ → Mode  -- $::a::
  in_class_variable : (p l : ℕ) → (class name : List ℕ) → Mode  -- $::a::x
  behind_minus : (p l : ℕ) → Mode  -- - where an operand may begin
  in_number : (p l : ℕ) → (negative : Bool) → ℕ → Mode
  in_string : (p l quote : ℕ) → List ℕ → Mode
  in_escape : (p l quote : ℕ) → List ℕ → Mode
  behind_equals : (p l : ℕ) → Mode  -- =
  broken : Mode  -- behind a malformed piece: nothing is read any more

-- what a byte brings: the tokens that end with it or before it, and what is read then
pub data Read : Type 0 where
  reads : List Lexeme → Mode → Read

abbrev pub on : Mode → Read
on m = reads [] m

-- the token t, which began at p on line l, ends with this byte
abbrev pub ends : ℕ → ℕ → Token → Read
ends p l t = reads (lexeme p l t ∷ []) (between (operand_behind (kind t)))

abbrev pub fails : ℕ → ℕ → Read
fails p l = reads (lexeme p l (mark malformed) ∷ []) broken

abbrev pub with : Lexeme → Read → Read
with x (reads xs m) = reads (x ∷ xs) m

abbrev pub or_else : Option ℕ → (ℕ → Read) → Read → Read
or_else none f r = r
or_else (some k) f r = f k

-- a byte that begins something, at p on line l
unfoldable pub begins : (operand : Bool) → ℕ → ℕ → ℕ → Read
begins o p l c =
    pick (is_space c) (on (between o))
    (pick (eqb c 0x23) (on (comment o))  -- #
    (pick (is_letter c) (on (in_name p l (c ∷ [])))
    (pick (eqb c 0x24) (on (behind_dollar p l))  -- $
    (pick (is_digit c) (on (in_number p l false (c - 0x30)))
    (pick (eqb c 0x2d && o) (on (behind_minus p l))  -- -
    (pick (is_quote c) (on (in_string p l c []))
    (pick (eqb c 0x3d) (on (behind_equals p l))  -- =
    (or_else (find c signs) (λ k. ends p l (mark k)) (fails p l)))))))))

-- the token t, which began at q on line m, has ended before the byte c
abbrev pub ended : ℕ → ℕ → Token → ℕ → ℕ → ℕ → Read
ended q m t p l c = with (lexeme q m t) (begins (operand_behind (kind t)) p l c)

-- the byte c at p on line l
unfoldable pub step_byte : Mode → ℕ → ℕ → ℕ → Read
step_byte (between o) p l c = begins o p l c
step_byte (comment o) p l c = pick (eqb c 0x0a) (on (between o)) (on (comment o))
step_byte (in_name q m w) p l c = pick (in_word c) (on (in_name q m (w ++ (c ∷ [])))) (ended q m (word_token w) p l c)
step_byte (behind_dollar q m) p l c = pick (is_letter c) (on (in_variable q m (c ∷ []))) (pick (eqb c 0x3a) (on (behind_dollar_colon q m)) (fails q m))
step_byte (in_variable q m w) p l c = pick (in_word c) (on (in_variable q m (w ++ (c ∷ [])))) (ended q m (name_token w (variable w)) p l c)
step_byte (behind_dollar_colon q m) p l c = pick (eqb c 0x3a) (on (behind_top q m)) (fails q m)
step_byte (behind_top q m) p l c = pick (is_letter c) (on (in_top q m (c ∷ []))) (fails q m)
step_byte (in_top q m w) p l c = pick (in_word c) (on (in_top q m (w ++ (c ∷ [])))) (pick (eqb c 0x3a) (on (behind_top_colon q m w p l)) (ended q m (name_token w (top_variable w)) p l c))
step_byte (behind_top_colon q m w r k) p l c = pick (eqb c 0x3a) (on (behind_class q m w)) (with (lexeme q m (name_token w (top_variable w))) (ended r k (mark colon) p l c))
step_byte (behind_class q m w) p l c = pick (is_letter c) (on (in_class_variable q m w (c ∷ []))) (fails q m)
step_byte (in_class_variable q m w v) p l c = pick (in_word c) (on (in_class_variable q m w (v ++ (c ∷ [])))) (ended q m (name_token w (name_token v (class_variable w v))) p l c)
step_byte (behind_minus q m) p l c = pick (is_digit c) (on (in_number q m true (c - 0x30))) (ended q m (mark minus_sign) p l c)
step_byte (in_number q m s zero) p l c = pick (in_word c) (fails q m) (ended q m (signed_token s zero) p l c)
step_byte (in_number q m s (suc n)) p l c = pick (is_digit c) (on (in_number q m s (suc n * 10 + (c - 0x30)))) (pick (in_word c) (fails q m) (ended q m (signed_token s (suc n)) p l c))
step_byte (in_string q m d s) p l c = pick (eqb c d) (ends q m (text_token s)) (pick (eqb c 0x5c) (on (in_escape q m d s)) (on (in_string q m d (s ++ (c ∷ [])))))
step_byte (in_escape q m d s) p l c = or_else (find c escapes) (λ b. on (in_string q m d (s ++ (b ∷ [])))) (fails q m)
step_byte (behind_equals q m) p l c =
    pick (eqb c 0x3d) (ends q m (mark two_equals))  -- ==
    (pick (eqb c 0x3e) (ends q m (mark arrow))  -- =>
    (ended q m (mark equals) p l c))
step_byte broken p l c = on broken

-- the end of the text, at p on line l: what is being read ends, or is not whole
abbrev pub the_end : ℕ → ℕ → List Lexeme
the_end p l = lexeme p l (mark end_of_text) ∷ []

abbrev pub not_whole : ℕ → ℕ → List Lexeme
not_whole p l = lexeme p l (mark malformed) ∷ []

unfoldable pub finish : Mode → ℕ → ℕ → List Lexeme
finish (between o) p l = the_end p l
finish (comment o) p l = the_end p l
finish (in_name q m w) p l = lexeme q m (word_token w) ∷ the_end p l
finish (behind_dollar q m) p l = not_whole q m
finish (in_variable q m w) p l = lexeme q m (name_token w (variable w)) ∷ the_end p l
finish (behind_dollar_colon q m) p l = not_whole q m
finish (behind_top q m) p l = not_whole q m
finish (in_top q m w) p l = lexeme q m (name_token w (top_variable w)) ∷ the_end p l
finish (behind_top_colon q m w r k) p l = lexeme q m (name_token w (top_variable w)) ∷ lexeme r k (mark colon) ∷ the_end p l
finish (behind_class q m w) p l = not_whole q m
finish (in_class_variable q m w v) p l = lexeme q m (name_token w (name_token v (class_variable w v))) ∷ the_end p l
finish (behind_minus q m) p l = lexeme q m (mark minus_sign) ∷ the_end p l
finish (in_number q m s n) p l = lexeme q m (signed_token s n) ∷ the_end p l
finish (in_string q m d s) p l = not_whole q m
finish (in_escape q m d s) p l = not_whole q m
finish (behind_equals q m) p l = lexeme q m (mark equals) ∷ the_end p l
finish broken p l = []

-- "The line of a byte is the number of bytes 0A before it"
abbrev pub line_behind : ℕ → ℕ → ℕ
line_behind c l = pick (eqb c 0x0a) (suc l) l

-- the tokens of the bytes from p on, which begins on line l
unfoldable pub lex : List ℕ → Mode → (p l : ℕ) → List Lexeme
lex [] m p l = finish m p l
lex (c ∷ cs) m p l = elim (step_byte m p l c) as (λ r. List Lexeme) [ reads xs n ↦ xs ++ lex cs n (suc p) (line_behind c l) ]

unfoldable pub tokens : List ℕ → List Lexeme
tokens t = lex t (between true) 0 0
