-- Signs and keywords are read back from their spelling.
use Prim.Native.Nat.{ℕ}
use mathlib.Core.Path.{◌≡◌, refl}
use mathlib.Core.List.{List, [], ◌∷◌, ◌++◌}
use mathlib.Core.Option.{some}
use mathlib.Core.Bool.{Bool, true, false}
use lib.Dec.{eqb}
use Rattle.notation.specs.Tokens.{mark, operand_behind, is_among, Lexeme, lexeme, left_brace, right_brace, left_round, right_round, left_square, right_square, colon, comma, arrow, question, exclamation, plus_sign, minus_sign, slash, above, two_equals, equals, and_word, or_word, true_word, false_word, default_word, if_word, else_word, case_word, class_word, include_word, node_word, define_word, inherits_word}
use Rattle.notation.specs.Lexing.{is_quote, keyword_in, word_token, between, behind_minus, behind_equals, ends, begins, step_byte}
use Rattle.rules.specs.Compile.{same_bytes}
use Rattle.notation.specs.Layout.{sign_of, keyword_of, mark_spelling, no_space_behind}
use Rattle.notation.specs.Printer.{all_in_word}
use Rattle.notation.proofs.Lexing.{Gives, ◌giving◌, over, last_byte, Each, all, ◌▹◌, of_each, stops, stopped}
use Rattle.notation.proofs.LexedNames.{is_word, word_lexed}

-- the kinds of signs and keywords
abbrev pub spelled_marks : List ℕ
spelled_marks =
    left_brace ∷ right_brace ∷ left_round ∷ right_round ∷ left_square ∷ right_square ∷ colon ∷ comma ∷ arrow ∷ question ∷ exclamation ∷ plus_sign ∷ minus_sign ∷ slash ∷ above ∷ two_equals ∷ equals
    ∷ and_word ∷ or_word ∷ true_word ∷ false_word ∷ default_word ∷ if_word ∷ else_word ∷ case_word ∷ class_word ∷ include_word ∷ node_word ∷ define_word ∷ inherits_word ∷ []

-- the sign or keyword of kind k is read back, wherever it stands, in front of what may follow it in a layout
pub record ReadBack (k : ℕ) : Type 0 where
  pub read_back : (o : Bool) (r : List ℕ) (p l : ℕ) → (no_space_behind (some k) ≡ false → stops r ≡ true) → Gives (mark_spelling k ++ r) (between o) p l (lexeme p l (mark k)) r (operand_behind k)

-- keywords
keyword : (k : ℕ) → is_word (mark_spelling k) ≡ true → word_token (mark_spelling k) ≡ mark k → no_space_behind (some k) ≡ false → ReadBack k
keyword k h i j = record { read_back = λ o r p l s. word_lexed o (mark_spelling k) (mark k) r p l h i (s j) }

-- signs of one byte that begin no other token
sign : (c k : ℕ) → mark_spelling k ≡ c ∷ [] → eqb c 0x0a ≡ false → ((o : Bool) (p l : ℕ) → begins o p l c ≡ ends p l (mark k)) → ReadBack k
unfolding step_byte
sign c k e h f = record { read_back = λ o r p l s. rw e (last_byte (f o p l) h) }

-- where an operand may begin, - might go on with a digit
minus : ReadBack minus_sign
unfolding step_byte begins is_quote mark_spelling sign_of keyword_of no_space_behind
minus = record { read_back = λ o r p l s. go o r p l (s refl) }
  where
    go : (o : Bool) (r : List ℕ) (p l : ℕ) → stops r ≡ true → Gives (0x2d ∷ r) (between o) p l (lexeme p l (mark minus_sign)) r (operand_behind minus_sign)
    go true r p l s =
        over {n = behind_minus p l} refl refl
        giving λ q. stopped (behind_minus p l) (lexeme p l (mark minus_sign)) (operand_behind minus_sign) r q l s (λ c i. rw i.no_digit)
    go false r p l s = last_byte refl refl

-- = might go on with = or >
equals_first : (r : List ℕ) (o : Bool) (p l : ℕ) (x : Lexeme) (u : List ℕ) (b : Bool) → ((q : ℕ) → Gives r (behind_equals p l) q l x u b) → Gives (0x3d ∷ r) (between o) p l x u b
unfolding step_byte begins is_quote
equals_first r o p l x u b f = over {n = behind_equals p l} refl refl giving f

one_equals : ReadBack equals
unfolding step_byte mark_spelling no_space_behind
one_equals = record {
  read_back = λ o r p l s. equals_first r o p l (lexeme p l (mark equals)) r (operand_behind equals) (λ q. stopped (behind_equals p l) (lexeme p l (mark equals)) (operand_behind equals) r q l (s refl) (λ c i. rw (i.no_equals, i.not_above)));
}

two_equals_lem : ReadBack two_equals
unfolding step_byte mark_spelling
two_equals_lem = record { read_back = λ o r p l s. equals_first (0x3d ∷ r) o p l (lexeme p l (mark two_equals)) r (operand_behind two_equals) (λ q. last_byte refl refl) }

arrow_sign : ReadBack arrow
unfolding step_byte mark_spelling
arrow_sign = record { read_back = λ o r p l s. equals_first (0x3e ∷ r) o p l (lexeme p l (mark arrow)) r (operand_behind arrow) (λ q. last_byte refl refl) }

-- all of them
every_mark : Each ReadBack spelled_marks
unfolding begins is_quote mark_spelling sign_of keyword_of keyword_in same_bytes word_token all_in_word no_space_behind
every_mark =
    sign 0x7b left_brace refl refl (λ o p l. refl) ▹ sign 0x7d right_brace refl refl (λ o p l. refl)
    ▹ sign 0x28 left_round refl refl (λ o p l. refl) ▹ sign 0x29 right_round refl refl (λ o p l. refl)
    ▹ sign 0x5b left_square refl refl (λ o p l. refl) ▹ sign 0x5d right_square refl refl (λ o p l. refl)
    ▹ sign 0x3a colon refl refl (λ o p l. refl) ▹ sign 0x2c comma refl refl (λ o p l. refl) ▹ arrow_sign
    ▹ sign 0x3f question refl refl (λ o p l. refl) ▹ sign 0x21 exclamation refl refl (λ o p l. refl)
    ▹ sign 0x2b plus_sign refl refl (λ o p l. refl) ▹ minus ▹ sign 0x2f slash refl refl (λ o p l. refl)
    ▹ sign 0x3e above refl refl (λ o p l. refl) ▹ two_equals_lem ▹ one_equals
    ▹ keyword and_word refl refl refl ▹ keyword or_word refl refl refl ▹ keyword true_word refl refl refl ▹ keyword false_word refl refl refl
    ▹ keyword default_word refl refl refl ▹ keyword if_word refl refl refl ▹ keyword else_word refl refl refl ▹ keyword case_word refl refl refl
    ▹ keyword class_word refl refl refl ▹ keyword include_word refl refl refl ▹ keyword node_word refl refl refl
    ▹ keyword define_word refl refl refl ▹ keyword inherits_word refl refl refl ▹ all

pub mark_lexed : (k : ℕ) → is_among k spelled_marks ≡ true → ReadBack k
mark_lexed k h = of_each ReadBack k spelled_marks h every_mark
