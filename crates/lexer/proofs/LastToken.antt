-- How the tokens of a text end, and that none stands before the place from which they are read. Assumes nothing.
use Prim.Native.Nat.{ℕ, zero, suc, ◌≤◌}
use mathlib.Core.Path.{◌≡◌, refl}
use mathlib.Core.Bool.{Bool, true, false, ◌&&◌}
use mathlib.Core.List.{List, [], ◌∷◌, ◌++◌}
use mathlib.Core.Option.{Option, none, some}
use native.Mathlib.Omega.{arith}
use lib.Dec.{leb, eqb}
use lib.IntN.{pos, negsuc}
use lib.ListN.{length, drop}
use borrow.Author.Tests.{leb-true}
use Rattle.rules.specs.Bytes.{pick}
use Rattle.rules.specs.Compile.{same_bytes}
use Rattle.rules.specs.Ranges.{Each}
use Rattle.rules.proofs.Lists.{both_left, both_right}
use Rattle.rules.proofs.Within.{false_not_true}
use Rattle.notation.specs.Tokens.{Token, number, text, variable, top_variable, class_variable, mark, end_of_text, malformed, Lexeme, lexeme, kind, token_of, place_of, operand_behind, colon, minus_sign, equals}
use Rattle.notation.specs.Lexing.{find, is_space, is_letter, is_digit, in_word, is_quote, signs, escapes, keywords, keyword_in, word_or, word_token, if_no_keyword, name_token, signed_token, text_token, Mode, between, comment, in_name, behind_dollar, in_variable, behind_dollar_colon, behind_top, in_top, behind_top_colon, behind_class, in_class_variable, behind_minus, in_number, in_string, in_escape, behind_equals, broken, Read, reads, with, or_else, ends, fails, begins, ended, step_byte, finish, lex, line_behind}
use Rattle.notation.proofs.ConstantLines.{EachByte, at_lex}
use Rattle.lexer.specs.Found.{tokens_from}
use Rattle.lexer.proofs.WordNumbers.{kind_bound}

-- tokens up to a malformed piece, or up to the end of the text, which nothing follows
pub data Ending : List Lexeme → Type 0 where
  at_fault : {x : Lexeme} {xs : List Lexeme} → kind (token_of x) ≡ malformed → Ending (x ∷ xs)
  at_end : {x : Lexeme} → kind (token_of x) ≡ end_of_text → Ending (x ∷ [])
  before : {x : Lexeme} {xs : List Lexeme} → (kind (token_of x) ≡ end_of_text → ⊥) → Ending xs → Ending (x ∷ xs)

-- ---- Tokens that are not the end

abbrev NoEnd : Token → Type 0
NoEnd t = kind t ≡ end_of_text → ⊥

mark_no_end : (k : ℕ) → 7 ≤ k → NoEnd (mark k)
mark_no_end k h = λ e. omega arith

no_end_picked : (b : Bool) (t : Token) → NoEnd t → NoEnd (pick b t (mark malformed))
no_end_picked true t h = h
no_end_picked false t h = λ e. omega arith

-- the kinds of keywords
abbrev are_marks : List (List ℕ × ℕ) → Bool
are_marks [] = true
are_marks (x ∷ xs) = leb 7 x.1 && are_marks xs

keyword_no_end : (xs : List (List ℕ × ℕ)) (w : List ℕ) → are_marks xs ≡ true → NoEnd (word_or w (keyword_in xs w))
unfolding keyword_in
keyword_no_end [] w a = λ e. omega arith
keyword_no_end (x ∷ xs) w a = go (same_bytes w x.0) (keyword_no_end xs w (both_right (leb 7 x.1) (are_marks xs) a))
  where
    low : 7 ≤ x.1
    low = leb-true 7 x.1 (both_left (leb 7 x.1) (are_marks xs) a)

    go : (b : Bool) → NoEnd (word_or w (keyword_in xs w)) → NoEnd (word_or w (pick b (some x.1) (keyword_in xs w)))
    go true h = λ e. omega (arith, low)
    go false h = h

word_no_end : (w : List ℕ) → NoEnd (word_token w)
unfolding word_token
word_no_end w = no_end_picked (leb (length w) 255) _ (keyword_no_end keywords w refl)

name_no_end : (w : List ℕ) (t : Token) → NoEnd t → NoEnd (name_token w t)
unfolding name_token
name_no_end w t h = no_end_picked (leb (length w) 255) _ (go (keyword_in keywords w))
  where
    go : (o : Option ℕ) → NoEnd (if_no_keyword o t)
    go none = h
    go (some k) = λ e. omega arith

number_no_end : (s : Bool) (n : ℕ) → NoEnd (signed_token s n)
unfolding signed_token
number_no_end false n = no_end_picked (leb n 9223372036854775807) (number (pos n)) (λ e. omega arith)
number_no_end true zero = λ e. omega arith
number_no_end true (suc n) = no_end_picked (leb n 9223372036854775807) (number (negsuc n)) (λ e. omega arith)

text_no_end : (s : List ℕ) → NoEnd (text_token s)
unfolding text_token
text_no_end s = no_end_picked (leb (length s) 255) (text s) (λ e. omega arith)

-- ---- What a byte brings

-- something is still read
abbrev is_open : Mode → Bool
is_open (between o) = true
is_open (comment o) = true
is_open (in_name q m w) = true
is_open (behind_dollar q m) = true
is_open (in_variable q m w) = true
is_open (behind_dollar_colon q m) = true
is_open (behind_top q m) = true
is_open (in_top q m w) = true
is_open (behind_top_colon q m w r k) = true
is_open (behind_class q m w) = true
is_open (in_class_variable q m w v) = true
is_open (behind_minus q m) = true
is_open (in_number q m s n) = true
is_open (in_string q m d s) = true
is_open (in_escape q m d s) = true
is_open (behind_equals q m) = true
is_open broken = false

-- with what is read then, the tokens end
abbrev Leads : Read → Type 0
Leads (reads xs m) = (ys : List Lexeme) → (is_open m ≡ true → Ending ys) → Ending (xs ++ ys)

leads_pick : (b : Bool) (r s : Read) → Leads r → Leads s → Leads (pick b r s)
leads_pick true r s f h = f
leads_pick false r s f h = h

leads_with : (q m : ℕ) (t : Token) (r : Read) → NoEnd t → Leads r → Leads (with (lexeme q m t) r)
leads_with q m t (reads xs n) other h = λ ys f. before other (h ys f)

leads_one : (q m : ℕ) (t : Token) → NoEnd t → Leads (ends q m t)
leads_one q m t other = λ ys f. before other (f refl)

leads_fault : (q m : ℕ) → Leads (fails q m)
leads_fault q m = λ ys f. at_fault refl

-- a byte that begins something
leads_begins : (o : Bool) (p l c : ℕ) → Leads (begins o p l c)
unfolding begins
leads_begins o p l c =
    leads_pick (is_space c) _ _ (λ ys f. f refl)
    (leads_pick (eqb c 0x23) _ _ (λ ys f. f refl)
    (leads_pick (is_letter c) _ _ (λ ys f. f refl)
    (leads_pick (eqb c 0x24) _ _ (λ ys f. f refl)
    (leads_pick (is_digit c) _ _ (λ ys f. f refl)
    (leads_pick (eqb c 0x2d && o) _ _ (λ ys f. f refl)
    (leads_pick (is_quote c) _ _ (λ ys f. f refl)
    (leads_pick (eqb c 0x3d) _ _ (λ ys f. f refl)
    (go (find c signs) refl))))))))
  where
    go : (s : Option ℕ) → find c signs ≡ s → Leads (or_else s (λ k. ends p l (mark k)) (fails p l))
    go none e = leads_fault p l
    go (some k) e = let high = kind_bound signs c k refl e in leads_one p l (mark k) (λ i. omega arith)

-- a token that has ended before the byte
leads_ended : (q m : ℕ) (t : Token) (p l c : ℕ) → NoEnd t → Leads (ended q m t p l c)
leads_ended q m t p l c other = leads_with q m t (begins (operand_behind (kind t)) p l c) other (leads_begins (operand_behind (kind t)) p l c)

-- one byte
leads_step : (n : Mode) (p l c : ℕ) → is_open n ≡ true → Leads (step_byte n p l c)
unfolding step_byte
leads_step (between o) p l c g = leads_begins o p l c
leads_step (comment o) p l c g = leads_pick (eqb c 0x0a) _ _ (λ ys f. f refl) (λ ys f. f refl)
leads_step (in_name q m w) p l c g = leads_pick (in_word c) _ _ (λ ys f. f refl) (leads_ended q m (word_token w) p l c (word_no_end w))
leads_step (behind_dollar q m) p l c g = leads_pick (is_letter c) _ _ (λ ys f. f refl) (leads_pick (eqb c 0x3a) _ _ (λ ys f. f refl) (leads_fault q m))
leads_step (in_variable q m w) p l c g = leads_pick (in_word c) _ _ (λ ys f. f refl) (leads_ended q m (name_token w (variable w)) p l c (name_no_end w (variable w) (λ e. omega arith)))
leads_step (behind_dollar_colon q m) p l c g = leads_pick (eqb c 0x3a) _ _ (λ ys f. f refl) (leads_fault q m)
leads_step (behind_top q m) p l c g = leads_pick (is_letter c) _ _ (λ ys f. f refl) (leads_fault q m)
leads_step (in_top q m w) p l c g =
    leads_pick (in_word c) _ _ (λ ys f. f refl) (leads_pick (eqb c 0x3a) _ _ (λ ys f. f refl) (leads_ended q m (name_token w (top_variable w)) p l c (name_no_end w (top_variable w) (λ e. omega arith))))
leads_step (behind_top_colon q m w r k) p l c g =
    leads_pick (eqb c 0x3a) _ _ (λ ys f. f refl) (leads_with q m (name_token w (top_variable w)) (ended r k (mark colon) p l c) (name_no_end w (top_variable w) (λ e. omega arith)) (leads_ended r k (mark colon) p l c (λ e. omega arith)))
leads_step (behind_class q m w) p l c g = leads_pick (is_letter c) _ _ (λ ys f. f refl) (leads_fault q m)
leads_step (in_class_variable q m w v) p l c g =
    leads_pick (in_word c) _ _ (λ ys f. f refl) (leads_ended q m (name_token w (name_token v (class_variable w v))) p l c (name_no_end w (name_token v (class_variable w v)) (name_no_end v (class_variable w v) (λ e. omega arith))))
leads_step (behind_minus q m) p l c g = leads_pick (is_digit c) _ _ (λ ys f. f refl) (leads_ended q m (mark minus_sign) p l c (λ e. omega arith))
leads_step (in_number q m s zero) p l c g = leads_pick (in_word c) _ _ (leads_fault q m) (leads_ended q m (signed_token s zero) p l c (number_no_end s zero))
leads_step (in_number q m s (suc n)) p l c g =
    leads_pick (is_digit c) _ _ (λ ys f. f refl) (leads_pick (in_word c) _ _ (leads_fault q m) (leads_ended q m (signed_token s (suc n)) p l c (number_no_end s (suc n))))
leads_step (in_string q m d s) p l c g = leads_pick (eqb c d) _ _ (leads_one q m (text_token s) (text_no_end s)) (leads_pick (eqb c 0x5c) _ _ (λ ys f. f refl) (λ ys f. f refl))
leads_step (in_escape q m d s) p l c g = go (find c escapes)
  where
    go : (o : Option ℕ) → Leads (or_else o (λ b. reads [] (in_string q m d (s ++ (b ∷ [])))) (fails q m))
    go none = leads_fault q m
    go (some b) = λ ys f. f refl
leads_step (behind_equals q m) p l c g =
    leads_pick (eqb c 0x3d) _ _ (leads_one q m (mark 22) (λ e. omega arith)) (leads_pick (eqb c 0x3e) _ _ (leads_one q m (mark 15) (λ e. omega arith)) (leads_ended q m (mark equals) p l c (λ e. omega arith)))
leads_step broken p l c g = false_not_true g

-- the end of the text
finish_ends : (n : Mode) (p l : ℕ) → is_open n ≡ true → Ending (finish n p l)
unfolding finish
finish_ends (between o) p l g = at_end refl
finish_ends (comment o) p l g = at_end refl
finish_ends (in_name q m w) p l g = before (word_no_end w) (at_end refl)
finish_ends (behind_dollar q m) p l g = at_fault refl
finish_ends (in_variable q m w) p l g = before (name_no_end w (variable w) (λ e. omega arith)) (at_end refl)
finish_ends (behind_dollar_colon q m) p l g = at_fault refl
finish_ends (behind_top q m) p l g = at_fault refl
finish_ends (in_top q m w) p l g = before (name_no_end w (top_variable w) (λ e. omega arith)) (at_end refl)
finish_ends (behind_top_colon q m w r k) p l g = before (name_no_end w (top_variable w) (λ e. omega arith)) (before (mark_no_end colon (omega arith)) (at_end refl))
finish_ends (behind_class q m w) p l g = at_fault refl
finish_ends (in_class_variable q m w v) p l g = before (name_no_end w (name_token v (class_variable w v)) (name_no_end v (class_variable w v) (λ e. omega arith))) (at_end refl)
finish_ends (behind_minus q m) p l g = before (mark_no_end minus_sign (omega arith)) (at_end refl)
finish_ends (in_number q m s n) p l g = before (number_no_end s n) (at_end refl)
finish_ends (in_string q m d s) p l g = at_fault refl
finish_ends (in_escape q m d s) p l g = at_fault refl
finish_ends (behind_equals q m) p l g = before (mark_no_end equals (omega arith)) (at_end refl)
finish_ends broken p l g = false_not_true g

-- some bytes
lex_ends : (cs : List ℕ) (n : Mode) (p l : ℕ) → is_open n ≡ true → Ending (lex cs n p l)
unfolding lex
lex_ends [] n p l g = finish_ends n p l g
lex_ends (c ∷ cs) n p l g = go (λ k h. lex_ends cs k (suc p) (line_behind c l) h) (step_byte n p l c) (leads_step n p l c g)
  where
    go : ((k : Mode) → is_open k ≡ true → Ending (lex cs k (suc p) (line_behind c l))) → (r : Read) → Leads r → Ending (elim r as (λ r. List Lexeme) [ reads xs k ↦ xs ++ lex cs k (suc p) (line_behind c l) ])
    go others (reads xs k) h = h (lex cs k (suc p) (line_behind c l)) (others k)

-- ---- The tokens from a place on

pub tokens_end : (t : List ℕ) (at line : ℕ) (o : Bool) → Ending (tokens_from t at line o)
tokens_end t at line o = lex_ends (drop at t) (between o) at line refl

bytes_behind : (n : ℕ) (cs : List ℕ) (p l : ℕ) → n ≤ p → EachByte (λ q m. n ≤ q) cs p l
bytes_behind n [] p l h = h
bytes_behind n (c ∷ cs) p l h = (h, bytes_behind n cs (suc p) (line_behind c l) (omega arith))

pub tokens_behind : (t : List ℕ) (at line : ℕ) (o : Bool) → Each (λ x. at ≤ place_of x) (tokens_from t at line o)
tokens_behind t at line o = at_lex (λ q m. at ≤ q) (drop at t) (between o) at line (bytes_behind at (drop at t) at line (omega arith)) tt
