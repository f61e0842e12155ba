-- The tokens of a text are good: each step of the machine over its bytes keeps what is known of the piece that is being read.
use Prim.Native.Nat.{ℕ, zero, suc, ◌<◌, ◌≤◌}
use mathlib.Core.Path.{◌≡◌, refl}
use mathlib.Core.Bool.{Bool, true, false, ◌&&◌}
use mathlib.Core.List.{List, [], ◌∷◌, ◌++◌}
use mathlib.Core.Option.{Option, none, some}
use native.Mathlib.Omega.{arith}
use lib.Dec.{ltb, leb, eqb}
use borrow.Author.Tests.{leb-true, ltb-true}
use Rattle.rules.specs.Bytes.{pick}
use Rattle.rules.specs.Ranges.{Each, none_left, also}
use Rattle.rules.specs.EditRule.{IsBytes}
use Rattle.notation.specs.Tokens.{Token, variable, top_variable, class_variable, mark, Lexeme, lexeme, kind, token_of, operand_behind, colon, minus_sign, equals}
use Rattle.notation.specs.Lexing.{find, is_space, is_letter, is_digit, in_word, is_quote, signs, escapes, word_token, name_token, signed_token, text_token, Mode, between, comment, in_name, behind_dollar, in_variable, behind_dollar_colon, behind_top, in_top, behind_top_colon, behind_class, in_class_variable, behind_minus, in_number, in_string, in_escape, behind_equals, broken, Read, reads, ends, fails, with, or_else, begins, ended, step_byte, finish, lex, tokens, line_behind}
use Rattle.notation.proofs.FormedTokens.{byte_before, no_bytes}
use Rattle.notation.proofs.TableRows.{found_passes}
use Rattle.notation.proofs.LexedTokens.{Begun, begun_more, begun_first, GoodToken, word_good, name_good, number_good, text_good}

-- what is known of the piece that is being read
abbrev GoodMode : Mode → Type 0
GoodMode (between o) = Unit {0}
GoodMode (comment o) = Unit {0}
GoodMode (in_name p l w) = Begun w
GoodMode (behind_dollar p l) = Unit {0}
GoodMode (in_variable p l w) = Begun w
GoodMode (behind_dollar_colon p l) = Unit {0}
GoodMode (behind_top p l) = Unit {0}
GoodMode (in_top p l w) = Begun w
GoodMode (behind_top_colon p l w r k) = Begun w
GoodMode (behind_class p l w) = Begun w
GoodMode (in_class_variable p l w v) = Begun w × Begun v
GoodMode (behind_minus p l) = Unit {0}
GoodMode (in_number p l s n) = Unit {0}
GoodMode (in_string p l d s) = IsBytes s
GoodMode (in_escape p l d s) = IsBytes s
GoodMode (behind_equals p l) = Unit {0}
GoodMode broken = Unit {0}

-- a good token, wherever it stands
abbrev pub GoodLexeme : Lexeme → Type 0
GoodLexeme x = GoodToken (token_of x)

-- what a byte brings is good
abbrev GoodRead : Read → Type 0
GoodRead (reads xs m) = Each GoodLexeme xs × GoodMode m

-- by a test
good_pick : (b : Bool) (r s : Read) → (b ≡ true → GoodRead r) → GoodRead s → GoodRead (pick b r s)
good_pick true r s f h = f refl
good_pick false r s f h = h

-- by a list
good_else : (o : Option ℕ) (f : ℕ → Read) (r : Read) → ((k : ℕ) → o ≡ some k → GoodRead (f k)) → GoodRead r → GoodRead (or_else o f r)
good_else none f r g h = h
good_else (some k) f r g h = g k refl

-- behind a token
good_with : (x : Lexeme) (r : Read) → GoodLexeme x → GoodRead r → GoodRead (with x r)
good_with x (reads xs m) g h = (also g h.0, h.1)

-- a malformed piece
good_fails : (p l : ℕ) → GoodRead (fails p l)
good_fails p l = (also {x = lexeme p l (mark 6)} (omega arith) none_left, tt)

-- bytes, and one more
bytes_more : (s : List ℕ) (c : ℕ) → IsBytes s → c < 256 → IsBytes (s ++ (c ∷ []))
bytes_more [] c b h = byte_before h no_bytes
bytes_more (x ∷ s) c b h = byte_before (b.below 0) (bytes_more s c (record { below = λ i. b.below (suc i) }) h)

-- a byte that begins something
good_begins : (o : Bool) (p l c : ℕ) → GoodRead (begins o p l c)
unfolding begins
good_begins o p l c =
    good_pick (is_space c) _ _ (λ e. (none_left, tt))
    (good_pick (eqb c 0x23) _ _ (λ e. (none_left, tt))
    (good_pick (is_letter c) _ _ (λ e. (none_left, begun_first c e))
    (good_pick (eqb c 0x24) _ _ (λ e. (none_left, tt))
    (good_pick (is_digit c) _ _ (λ e. (none_left, tt))
    (good_pick (eqb c 0x2d && o) _ _ (λ e. (none_left, tt))
    (good_pick (is_quote c) _ _ (λ e. (none_left, no_bytes))
    (good_pick (eqb c 0x3d) _ _ (λ e. (none_left, tt))
    (good_else (find c signs) _ _ (λ k e. (also {x = lexeme p l (mark k)} (leb-true 5 k (found_passes (leb 5) signs c k refl e)) none_left, tt)) (good_fails p l)))))))))

-- a token that has ended before the byte
good_ended : (q m : ℕ) (t : Token) (p l c : ℕ) → GoodToken t → GoodRead (ended q m t p l c)
good_ended q m t p l c g = good_with (lexeme q m t) (begins (operand_behind (kind t)) p l c) g (good_begins (operand_behind (kind t)) p l c)

-- a token that ends with the byte
good_ends : (q m : ℕ) (t : Token) → GoodToken t → GoodRead (ends q m t)
good_ends q m t g = (also {x = lexeme q m t} g none_left, tt)

-- one byte
good_step : (m : Mode) (p l c : ℕ) → c < 256 → GoodMode m → GoodRead (step_byte m p l c)
unfolding step_byte
good_step (between o) p l c b g = good_begins o p l c
good_step (comment o) p l c b g = good_pick (eqb c 0x0a) _ _ (λ e. (none_left, tt)) (none_left, tt)
good_step (in_name q m w) p l c b g = good_pick (in_word c) _ _ (λ e. (none_left, begun_more c g e)) (good_ended q m (word_token w) p l c (word_good g))
good_step (behind_dollar q m) p l c b g = good_pick (is_letter c) _ _ (λ e. (none_left, begun_first c e)) (good_pick (eqb c 0x3a) _ _ (λ e. (none_left, tt)) (good_fails q m))
good_step (in_variable q m w) p l c b g = good_pick (in_word c) _ _ (λ e. (none_left, begun_more c g e)) (good_ended q m (name_token w (variable w)) p l c (name_good (variable w) g (λ v. v)))
good_step (behind_dollar_colon q m) p l c b g = good_pick (eqb c 0x3a) _ _ (λ e. (none_left, tt)) (good_fails q m)
good_step (behind_top q m) p l c b g = good_pick (is_letter c) _ _ (λ e. (none_left, begun_first c e)) (good_fails q m)
good_step (in_top q m w) p l c b g =
    good_pick (in_word c) _ _ (λ e. (none_left, begun_more c g e))
    (good_pick (eqb c 0x3a) _ _ (λ e. (none_left, g)) (good_ended q m (name_token w (top_variable w)) p l c (name_good (top_variable w) g (λ v. v))))
good_step (behind_top_colon q m w r k) p l c b g =
    good_pick (eqb c 0x3a) _ _ (λ e. (none_left, g))
    (good_with (lexeme q m (name_token w (top_variable w))) (ended r k (mark colon) p l c) (name_good (top_variable w) g (λ v. v)) (good_ended r k (mark colon) p l c (omega arith)))
good_step (behind_class q m w) p l c b g = good_pick (is_letter c) _ _ (λ e. (none_left, (g, begun_first c e))) (good_fails q m)
good_step (in_class_variable q m w v) p l c b g =
    good_pick (in_word c) _ _ (λ e. (none_left, (g.0, begun_more c g.1 e)))
    (good_ended q m (name_token w (name_token v (class_variable w v))) p l c (name_good (name_token v (class_variable w v)) g.0 (λ i. name_good (class_variable w v) g.1 (λ j. (i, j)))))
good_step (behind_minus q m) p l c b g = good_pick (is_digit c) _ _ (λ e. (none_left, tt)) (good_ended q m (mark minus_sign) p l c (omega arith))
good_step (in_number q m s zero) p l c b g = good_pick (in_word c) _ _ (λ e. good_fails q m) (good_ended q m (signed_token s zero) p l c (number_good s zero))
good_step (in_number q m s (suc n)) p l c b g =
    good_pick (is_digit c) _ _ (λ e. (none_left, tt)) (good_pick (in_word c) _ _ (λ e. good_fails q m) (good_ended q m (signed_token s (suc n)) p l c (number_good s (suc n))))
good_step (in_string q m d s) p l c b g = good_pick (eqb c d) _ _ (λ e. good_ends q m (text_token s) (text_good g)) (good_pick (eqb c 0x5c) _ _ (λ e. (none_left, g)) (none_left, bytes_more s c g b))
good_step (in_escape q m d s) p l c b g =
    good_else (find c escapes) _ _ (λ k e. (none_left, bytes_more s k g (ltb-true k 256 (found_passes (λ i. ltb i 256) escapes c k refl e)))) (good_fails q m)
good_step (behind_equals q m) p l c b g =
    good_pick (eqb c 0x3d) _ _ (λ e. good_ends q m (mark 22) (omega arith))
    (good_pick (eqb c 0x3e) _ _ (λ e. good_ends q m (mark 15) (omega arith)) (good_ended q m (mark equals) p l c (omega arith)))
good_step broken p l c b g = (none_left, tt)

-- a token before others
good_before : {xs : List Lexeme} (q m : ℕ) (t : Token) → GoodToken t → Each GoodLexeme xs → Each GoodLexeme (lexeme q m t ∷ xs)
good_before q m t g all = also g all

-- the end of the text; a piece that is not whole
good_end : (p l k : ℕ) → 5 ≤ k → Each GoodLexeme (lexeme p l (mark k) ∷ [])
good_end p l k h = also h none_left

-- what is read where the text ends
good_finish : (m : Mode) (p l : ℕ) → GoodMode m → Each GoodLexeme (finish m p l)
unfolding finish
good_finish (between o) p l g = good_end p l 5 (omega arith)
good_finish (comment o) p l g = good_end p l 5 (omega arith)
good_finish (in_name q m w) p l g = good_before q m (word_token w) (word_good g) (good_end p l 5 (omega arith))
good_finish (behind_dollar q m) p l g = good_end q m 6 (omega arith)
good_finish (in_variable q m w) p l g = good_before q m (name_token w (variable w)) (name_good (variable w) g (λ v. v)) (good_end p l 5 (omega arith))
good_finish (behind_dollar_colon q m) p l g = good_end q m 6 (omega arith)
good_finish (behind_top q m) p l g = good_end q m 6 (omega arith)
good_finish (in_top q m w) p l g = good_before q m (name_token w (top_variable w)) (name_good (top_variable w) g (λ v. v)) (good_end p l 5 (omega arith))
good_finish (behind_top_colon q m w r k) p l g =
    good_before q m (name_token w (top_variable w)) (name_good (top_variable w) g (λ v. v)) (good_before r k (mark colon) (omega arith) (good_end p l 5 (omega arith)))
good_finish (behind_class q m w) p l g = good_end q m 6 (omega arith)
good_finish (in_class_variable q m w v) p l g =
    good_before q m (name_token w (name_token v (class_variable w v))) (name_good (name_token v (class_variable w v)) g.0 (λ i. name_good (class_variable w v) g.1 (λ j. (i, j)))) (good_end p l 5 (omega arith))
good_finish (behind_minus q m) p l g = good_before q m (mark minus_sign) (omega arith) (good_end p l 5 (omega arith))
good_finish (in_number q m s n) p l g = good_before q m (signed_token s n) (number_good s n) (good_end p l 5 (omega arith))
good_finish (in_string q m d s) p l g = good_end q m 6 (omega arith)
good_finish (in_escape q m d s) p l g = good_end q m 6 (omega arith)
good_finish (behind_equals q m) p l g = good_before q m (mark equals) (omega arith) (good_end p l 5 (omega arith))
good_finish broken p l g = none_left

-- tokens before others
each_joined : {P : Lexeme → Type 0} {xs ys : List Lexeme} → Each P xs → Each P ys → Each P (xs ++ ys)
each_joined none_left all = all
each_joined (also p ps) all = also p (each_joined ps all)

-- some bytes
good_lex : (cs : List ℕ) (m : Mode) (p l : ℕ) → IsBytes cs → GoodMode m → Each GoodLexeme (lex cs m p l)
unfolding lex
good_lex [] m p l b g = good_finish m p l g
good_lex (c ∷ cs) m p l b g = go (λ n h. good_lex cs n (suc p) (line_behind c l) (record { below = λ i. b.below (suc i) }) h) (step_byte m p l c) (good_step m p l c (b.below 0) g)
  where
    go : ((n : Mode) → GoodMode n → Each GoodLexeme (lex cs n (suc p) (line_behind c l))) → (r : Read) → GoodRead r → Each GoodLexeme (elim r as (λ r. List Lexeme) [ reads xs n ↦ xs ++ lex cs n (suc p) (line_behind c l) ])
    go others (reads xs n) h = each_joined h.0 (others n h.1)

-- a text
pub tokens_good : (given : List ℕ) → IsBytes given → Each GoodLexeme (tokens given)
unfolding tokens
tokens_good given b = good_lex given (between true) 0 0 b tt
