-- Words, keywords and variables are read back from their spelling.
use Prim.Native.Nat.{ℕ, suc, ◌≤◌}
use mathlib.Core.Path.{◌≡◌, refl, sym, ap, ◌∙◌, subst}
use mathlib.Core.List.{List, [], ◌∷◌, ◌++◌}
use mathlib.Core.Option.{Option, none, some}
use mathlib.Core.Bool.{Bool, true, false, ◌&&◌}
use lib.Dec.{eqb}
use lib.ListN.{length}
use borrow.Author.Tests.{eqb-true, le-leb}
use Rattle.rules.proofs.Within.{false_not_true}
use Rattle.notation.specs.Tokens.{Token, word, variable, top_variable, class_variable, mark, kind, operand_behind, Lexeme, lexeme, colon, a_variable, a_qualified}
use Rattle.notation.specs.Lexing.{is_letter, is_quote, keywords, keyword_in, word_token, name_token, Mode, between, in_name, behind_dollar, in_variable, behind_dollar_colon, behind_top, in_top, behind_top_colon, behind_class, in_class_variable, Read, reads, with, begins, step_byte, finish, line_behind, lex}
use Rattle.notation.specs.Printer.{all_in_word, no_keyword, is_name}
use Rattle.notation.proofs.Lexing.{Leads, Gives, ◌then◌, ◌giving◌, lex_step, over, resumed, both_true, letter_begins, letter_no_feed, Gathers, gathered, stops, colon_first, two_colons, stop_byte, stopped}

-- ---- Names

-- a letter, then bytes of a word
abbrev pub is_word : List ℕ → Bool
is_word [] = false
is_word (c ∷ cs) = is_letter c && all_in_word cs

-- a name is a word, and no keyword
pub name_is_word : (w : List ℕ) → is_name w ≡ true → is_word w ≡ true
unfolding is_name
name_is_word [] h = false_not_true h
name_is_word (c ∷ cs) h =
    let a = both_true (is_letter c) (all_in_word cs && no_keyword (keyword_in keywords (c ∷ cs))) h in
    rw (a.0, (both_true (all_in_word cs) (no_keyword (keyword_in keywords (c ∷ cs))) a.1).0)

name_no_keyword : (w : List ℕ) → is_name w ≡ true → keyword_in keywords w ≡ none
unfolding is_name no_keyword
name_no_keyword [] h = false_not_true h
name_no_keyword (c ∷ cs) h =
    let a = both_true (is_letter c) (all_in_word cs && no_keyword (keyword_in keywords (c ∷ cs))) h in
    go (keyword_in keywords (c ∷ cs)) (both_true (all_in_word cs) (no_keyword (keyword_in keywords (c ∷ cs))) a.1).1
  where
    go : (k : Option ℕ) → no_keyword k ≡ true → k ≡ none
    go none e = refl
    go (some k) e = false_not_true e

-- a name is the word or the name of a variable that it spells
pub name_as_word : (w : List ℕ) → is_name w ≡ true → length w ≤ 255 → word_token w ≡ word w
unfolding word_token
name_as_word w h i = rw (le-leb (length w) 255 i, name_no_keyword w h)

pub name_as_name : (w : List ℕ) (t : Token) → is_name w ≡ true → length w ≤ 255 → name_token w t ≡ t
unfolding name_token
name_as_name w t h i = rw (le-leb (length w) 255 i, name_no_keyword w h)

-- the bytes of a word, from the mode n in which its letter begins it
word_gathered : (M : List ℕ → Mode) → Gathers M → (n : Mode) (w r : List ℕ) (p l : ℕ) → ((c : ℕ) → is_letter c ≡ true → step_byte n p l c ≡ reads [] (M (c ∷ []))) → is_word w ≡ true → Leads (w ++ r) n p l r (M w) l
word_gathered M g n [] r p l f h = false_not_true h
word_gathered M g n (c ∷ w) r p l f h =
    let a = both_true (is_letter c) (all_in_word w) h in
    over (f c a.0) (letter_no_feed c a.0) then λ q. gathered M g w (c ∷ []) r q l a.1

-- ---- Words and keywords

in_name_gathers : (q m : ℕ) → Gathers (in_name q m)
unfolding step_byte
in_name_gathers q m v c p l h = rw h

-- the word w, whose token is t
pub word_lexed : (o : Bool) (w : List ℕ) (t : Token) (r : List ℕ) (p l : ℕ) → is_word w ≡ true → word_token w ≡ t → stops r ≡ true → Gives (w ++ r) (between o) p l (lexeme p l t) r (operand_behind (kind t))
unfolding step_byte
word_lexed o w t r p l h e s =
    word_gathered (in_name p l) (in_name_gathers p l) (between o) w r p l (λ c i. letter_begins o c p l i) h
    giving λ q. stopped (in_name p l w) (lexeme p l t) (operand_behind (kind t)) r q l s (λ c i. rw (i.not_in_word, e))

-- ---- $x

in_variable_gathers : (q m : ℕ) → Gathers (in_variable q m)
unfolding step_byte
in_variable_gathers q m v c p l h = rw h

pub variable_lexed : (o : Bool) (w r : List ℕ) (p l : ℕ) → is_name w ≡ true → length w ≤ 255 → stops r ≡ true → Gives (0x24 ∷ w ++ r) (between o) p l (lexeme p l (variable w)) r (operand_behind a_variable)
unfolding step_byte begins
variable_lexed o w r p l h i s =
    over {n = behind_dollar p l} refl refl
    giving λ q. word_gathered (in_variable p l) (in_variable_gathers p l) (behind_dollar p l) w r q l (λ c j. rw j) (name_is_word w h)
    giving λ q. stopped (in_variable p l w) (lexeme p l (variable w)) (operand_behind a_variable) r q l s (λ c j. rw (j.not_in_word, name_as_name w (variable w) h i))

-- ---- $::x

in_top_gathers : (q m : ℕ) → Gathers (in_top q m)
unfolding step_byte
in_top_gathers q m v c p l h = rw h

-- the bytes up to the end of the name
top_gathered : (o : Bool) (w r : List ℕ) (p l : ℕ) → is_name w ≡ true → Leads (0x24 ∷ 0x3a ∷ 0x3a ∷ w ++ r) (between o) p l r (in_top p l w) l
unfolding step_byte begins
top_gathered o w r p l h =
    over {n = behind_dollar p l} refl refl
    then λ q. over {n = behind_dollar_colon p l} refl refl
    then λ q. over {n = behind_top p l} refl refl
    then λ q. word_gathered (in_top p l) (in_top_gathers p l) (behind_top p l) w r q l (λ c j. rw j) (name_is_word w h)

-- a colon behind the name is held until it is known that no other follows
colon_held : (q m : ℕ) (w r : List ℕ) (p l : ℕ) → lex (0x3a ∷ r) (in_top q m w) p l ≡ lex r (behind_top_colon q m w p l) (suc p) l
unfolding step_byte
colon_held q m w r p l = lex_step 0x3a r (in_top q m w) p l [] (behind_top_colon q m w p l) refl

-- a colon between two tokens
colon_lexed : (o : Bool) (r : List ℕ) (p l : ℕ) → lex (0x3a ∷ r) (between o) p l ≡ lexeme p l (mark colon) ∷ lex r (between (operand_behind colon)) (suc p) l
unfolding step_byte begins is_quote
colon_lexed o r p l = lex_step 0x3a r (between o) p l (lexeme p l (mark colon) ∷ []) (between (operand_behind colon)) refl

-- then it is a token of its own
colon_let_go : (q m : ℕ) (w : List ℕ) (i j : ℕ) (r : List ℕ) (p l : ℕ) → name_token w (top_variable w) ≡ top_variable w → colon_first r ≡ false
    → lex r (behind_top_colon q m w i j) p l ≡ lexeme q m (top_variable w) ∷ lexeme i j (mark colon) ∷ lex r (between (operand_behind colon)) p l
unfolding lex step_byte finish
colon_let_go q m w i j [] p l h e = rw h
colon_let_go q m w i j (d ∷ ds) p l h e = rw (lex, e) (go (name_token w (top_variable w)) h (begins (operand_behind colon) p l d))
  where
    y : Lexeme
    y = lexeme i j (mark colon)

    go : (t : Token) → t ≡ top_variable w → (r : Read)
        → ◌≡◌ {A = List Lexeme} (elim (with (lexeme q m t) (with y r)) as (λ r. List Lexeme) [ reads xs n ↦ xs ++ lex ds n (suc p) (line_behind d l) ]) (lexeme q m (top_variable w) ∷ y ∷ elim r as (λ r. List Lexeme) [ reads xs n ↦ xs ++ lex ds n (suc p) (line_behind d l) ])
    go t h (reads xs n) = rw h

-- what follows a top variable ends it, if it is not two colons
top_ends : (q m : ℕ) (w r : List ℕ) (p l : ℕ) → name_token w (top_variable w) ≡ top_variable w → stops r ≡ true → two_colons r ≡ false → Gives r (in_top q m w) p l (lexeme q m (top_variable w)) r (operand_behind a_qualified)
unfolding step_byte
top_ends q m w [] p l h s d = false_not_true s
top_ends q m w (c ∷ cs) p l h s d = go (eqb c 0x3a) refl d
  where
    Goal : ℕ → Type 0
    Goal c = Gives (c ∷ cs) (in_top q m w) p l (lexeme q m (top_variable w)) (c ∷ cs) (operand_behind a_qualified)

    before_colon : colon_first cs ≡ false → Goal 0x3a
    before_colon e = record {
      behind = p;
      gives =
          colon_held q m w cs p l ∙ colon_let_go q m w p l cs (suc p) l h e
          ∙ ap (λ (xs : List Lexeme). lexeme q m (top_variable w) ∷ xs) (sym (colon_lexed (operand_behind a_qualified) cs p l));
    }

    go : (b : Bool) → eqb c 0x3a ≡ b → (b && colon_first cs) ≡ false → Goal c
    go true e d = subst Goal (sym (eqb-true c 0x3a e)) (before_colon d)
    go false e d = resumed (rw ((stop_byte c s).not_in_word, e, h))

pub top_lexed : (o : Bool) (w r : List ℕ) (p l : ℕ) → is_name w ≡ true → length w ≤ 255 → stops r ≡ true → two_colons r ≡ false → Gives (0x24 ∷ 0x3a ∷ 0x3a ∷ w ++ r) (between o) p l (lexeme p l (top_variable w)) r (operand_behind a_qualified)
top_lexed o w r p l h i s d = top_gathered o w r p l h giving λ q. top_ends p l w r q l (name_as_name w (top_variable w) h i) s d

-- ---- $::a::x

in_class_variable_gathers : (q m : ℕ) (w : List ℕ) → Gathers (in_class_variable q m w)
unfolding step_byte
in_class_variable_gathers q m w v c p l h = rw h

pub class_lexed : (o : Bool) (w v r : List ℕ) (p l : ℕ) → is_name w ≡ true → length w ≤ 255 → is_name v ≡ true → length v ≤ 255 → stops r ≡ true
    → Gives (0x24 ∷ 0x3a ∷ 0x3a ∷ w ++ (0x3a ∷ 0x3a ∷ v ++ r)) (between o) p l (lexeme p l (class_variable w v)) r (operand_behind a_qualified)
unfolding step_byte
class_lexed o w v r p l h i j k s =
    top_gathered o w (0x3a ∷ 0x3a ∷ v ++ r) p l h
    giving λ q. over {n = behind_top_colon p l w q l} refl refl
    giving λ q. over {n = behind_class p l w} refl refl
    giving λ q. word_gathered (in_class_variable p l w) (in_class_variable_gathers p l w) (behind_class p l w) v r q l (λ c e. rw e) (name_is_word v j)
    giving λ q. stopped (in_class_variable p l w v) (lexeme p l (class_variable w v)) (operand_behind a_qualified) r q l s (λ c e. rw (e.not_in_word, name_as_name v (class_variable w v) j k, name_as_name w (class_variable w v) h i))
