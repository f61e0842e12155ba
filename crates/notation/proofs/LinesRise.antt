-- The lines of the tokens of a text never fall.
use Prim.Native.Nat.{ℕ, zero, suc, ◌≤◌}
use mathlib.Core.Bool.{Bool, true, false, ◌&&◌}
use mathlib.Core.List.{List, [], ◌∷◌, ◌++◌}
use mathlib.Core.Option.{Option, none, some}
use native.Mathlib.Omega.{arith}
use lib.Dec.{eqb}
use Rattle.rules.specs.Bytes.{pick}
use Rattle.notation.specs.Tokens.{Token, variable, top_variable, class_variable, mark, Lexeme, lexeme, kind, line_of, operand_behind, colon, minus_sign, equals}
use Rattle.notation.specs.Lexing.{find, is_space, is_letter, is_digit, in_word, is_quote, signs, escapes, word_token, name_token, signed_token, Mode, between, comment, in_name, behind_dollar, in_variable, behind_dollar_colon, behind_top, in_top, behind_top_colon, behind_class, in_class_variable, behind_minus, in_number, in_string, in_escape, behind_equals, broken, Read, reads, with, or_else, begins, ended, step_byte, finish, lex, tokens, line_behind}
use Rattle.notation.proofs.LabelsRise.{Lines, no_line, next_line}

-- behind a token on line n, where l is the line of the next byte: the piece that is being read began between them
abbrev ModeFrom : (n l : ℕ) → Mode → Type 0
ModeFrom n l (between o) = n ≤ l
ModeFrom n l (comment o) = n ≤ l
ModeFrom n l (in_name p m w) = (n ≤ m) × (m ≤ l)
ModeFrom n l (behind_dollar p m) = (n ≤ m) × (m ≤ l)
ModeFrom n l (in_variable p m w) = (n ≤ m) × (m ≤ l)
ModeFrom n l (behind_dollar_colon p m) = (n ≤ m) × (m ≤ l)
ModeFrom n l (behind_top p m) = (n ≤ m) × (m ≤ l)
ModeFrom n l (in_top p m w) = (n ≤ m) × (m ≤ l)
ModeFrom n l (behind_top_colon p m w r k) = (n ≤ m) × (m ≤ k) × (k ≤ l)
ModeFrom n l (behind_class p m w) = (n ≤ m) × (m ≤ l)
ModeFrom n l (in_class_variable p m w v) = (n ≤ m) × (m ≤ l)
ModeFrom n l (behind_minus p m) = (n ≤ m) × (m ≤ l)
ModeFrom n l (in_number p m s k) = (n ≤ m) × (m ≤ l)
ModeFrom n l (in_string p m d s) = (n ≤ m) × (m ≤ l)
ModeFrom n l (in_escape p m d s) = (n ≤ m) × (m ≤ l)
ModeFrom n l (behind_equals p m) = (n ≤ m) × (m ≤ l)
ModeFrom n l broken = Unit {0}

-- the lines of tokens rise from n on, and P holds of the last one
abbrev Through : ℕ → List Lexeme → (ℕ → Type 0) → Type 0
Through n [] P = P n
Through n (x ∷ xs) P = (n ≤ line_of x) × Through (line_of x) xs P

-- what a byte brings is so
abbrev ReadFrom : (n l : ℕ) → Read → Type 0
ReadFrom n l (reads xs m) = Through n xs (λ i. ModeFrom i l m)

module _ (n l : ℕ) where
  -- by a test
  from_pick : (b : Bool) (r s : Read) → ReadFrom n l r → ReadFrom n l s → ReadFrom n l (pick b r s)
  from_pick true r s f h = f
  from_pick false r s f h = h

  -- by a list
  from_else : (o : Option ℕ) (f : ℕ → Read) (r : Read) → ((k : ℕ) → ReadFrom n l (f k)) → ReadFrom n l r → ReadFrom n l (or_else o f r)
  from_else none f r g h = h
  from_else (some k) f r g h = g k

  -- behind a token
  from_with : (x : Lexeme) (r : Read) → n ≤ line_of x → ReadFrom (line_of x) l r → ReadFrom n l (with x r)
  from_with x (reads xs m) e h = (e, h)

  -- a byte that begins something
  from_begins : (o : Bool) (p c : ℕ) → n ≤ l → ReadFrom n l (begins o p l c)
  unfolding begins
  from_begins o p c e =
      from_pick (is_space c) _ _ e
      (from_pick (eqb c 0x23) _ _ e
      (from_pick (is_letter c) _ _ (e, omega arith)
      (from_pick (eqb c 0x24) _ _ (e, omega arith)
      (from_pick (is_digit c) _ _ (e, omega arith)
      (from_pick (eqb c 0x2d && o) _ _ (e, omega arith)
      (from_pick (is_quote c) _ _ (e, omega arith)
      (from_pick (eqb c 0x3d) _ _ (e, omega arith)
      (from_else (find c signs) _ _ (λ k. (e, omega arith)) (e, tt)))))))))

module _ (n l : ℕ) where
  -- a token that has ended before the byte
  from_ended : (q m : ℕ) (t : Token) (p c : ℕ) → n ≤ m → m ≤ l → ReadFrom n l (ended q m t p l c)
  from_ended q m t p c e f = from_with n l (lexeme q m t) (begins (operand_behind (kind t)) p l c) e (from_begins m l (operand_behind (kind t)) p c f)

-- one byte
from_step : (m : Mode) (n p l c : ℕ) → ModeFrom n l m → ReadFrom n l (step_byte m p l c)
unfolding step_byte
from_step (between o) n p l c g = from_begins n l o p c g
from_step (comment o) n p l c g = from_pick n l (eqb c 0x0a) _ _ g g
from_step (in_name q m w) n p l c g = from_pick n l (in_word c) _ _ g (from_ended n l q m (word_token w) p c g.0 g.1)
from_step (behind_dollar q m) n p l c g = from_pick n l (is_letter c) _ _ g (from_pick n l (eqb c 0x3a) _ _ g (g.0, tt))
from_step (in_variable q m w) n p l c g = from_pick n l (in_word c) _ _ g (from_ended n l q m (name_token w (variable w)) p c g.0 g.1)
from_step (behind_dollar_colon q m) n p l c g = from_pick n l (eqb c 0x3a) _ _ g (g.0, tt)
from_step (behind_top q m) n p l c g = from_pick n l (is_letter c) _ _ g (g.0, tt)
from_step (in_top q m w) n p l c g =
    from_pick n l (in_word c) _ _ g (from_pick n l (eqb c 0x3a) _ _ (g.0, g.1, omega arith) (from_ended n l q m (name_token w (top_variable w)) p c g.0 g.1))
from_step (behind_top_colon q m w r k) n p l c g =
    from_pick n l (eqb c 0x3a) _ _ (g.0, omega (arith, g.1, g.2))
    (from_with n l (lexeme q m (name_token w (top_variable w))) (ended r k (mark colon) p l c) g.0 (from_ended m l r k (mark colon) p c g.1 g.2))
from_step (behind_class q m w) n p l c g = from_pick n l (is_letter c) _ _ g (g.0, tt)
from_step (in_class_variable q m w v) n p l c g = from_pick n l (in_word c) _ _ g (from_ended n l q m (name_token w (name_token v (class_variable w v))) p c g.0 g.1)
from_step (behind_minus q m) n p l c g = from_pick n l (is_digit c) _ _ g (from_ended n l q m (mark minus_sign) p c g.0 g.1)
from_step (in_number q m s zero) n p l c g = from_pick n l (in_word c) _ _ (g.0, tt) (from_ended n l q m (signed_token s zero) p c g.0 g.1)
from_step (in_number q m s (suc k)) n p l c g = from_pick n l (is_digit c) _ _ g (from_pick n l (in_word c) _ _ (g.0, tt) (from_ended n l q m (signed_token s (suc k)) p c g.0 g.1))
from_step (in_string q m d s) n p l c g = from_pick n l (eqb c d) _ _ g (from_pick n l (eqb c 0x5c) _ _ g g)
from_step (in_escape q m d s) n p l c g = from_else n l (find c escapes) _ _ (λ k. g) (g.0, tt)
from_step (behind_equals q m) n p l c g = from_pick n l (eqb c 0x3d) _ _ g (from_pick n l (eqb c 0x3e) _ _ g (from_ended n l q m (mark equals) p c g.0 g.1))
from_step broken n p l c g = tt

-- the end of the text
from_finish : (m : Mode) (n p l : ℕ) → ModeFrom n l m → Lines n (finish m p l)
unfolding finish
from_finish (between o) n p l g = next_line g no_line
from_finish (comment o) n p l g = next_line g no_line
from_finish (in_name q m w) n p l g = next_line g.0 (next_line g.1 no_line)
from_finish (behind_dollar q m) n p l g = next_line g.0 no_line
from_finish (in_variable q m w) n p l g = next_line g.0 (next_line g.1 no_line)
from_finish (behind_dollar_colon q m) n p l g = next_line g.0 no_line
from_finish (behind_top q m) n p l g = next_line g.0 no_line
from_finish (in_top q m w) n p l g = next_line g.0 (next_line g.1 no_line)
from_finish (behind_top_colon q m w r k) n p l g = next_line g.0 (next_line g.1 (next_line g.2 no_line))
from_finish (behind_class q m w) n p l g = next_line g.0 no_line
from_finish (in_class_variable q m w v) n p l g = next_line g.0 (next_line g.1 no_line)
from_finish (behind_minus q m) n p l g = next_line g.0 (next_line g.1 no_line)
from_finish (in_number q m s k) n p l g = next_line g.0 (next_line g.1 no_line)
from_finish (in_string q m d s) n p l g = next_line g.0 no_line
from_finish (in_escape q m d s) n p l g = next_line g.0 no_line
from_finish (behind_equals q m) n p l g = next_line g.0 (next_line g.1 no_line)
from_finish broken n p l g = no_line

-- a later line
from_later : (m : Mode) (n l k : ℕ) → l ≤ k → ModeFrom n l m → ModeFrom n k m
from_later (between o) n l k e g = omega arith
from_later (comment o) n l k e g = omega arith
from_later (in_name q m w) n l k e g = (g.0, omega (arith, g.1))
from_later (behind_dollar q m) n l k e g = (g.0, omega (arith, g.1))
from_later (in_variable q m w) n l k e g = (g.0, omega (arith, g.1))
from_later (behind_dollar_colon q m) n l k e g = (g.0, omega (arith, g.1))
from_later (behind_top q m) n l k e g = (g.0, omega (arith, g.1))
from_later (in_top q m w) n l k e g = (g.0, omega (arith, g.1))
from_later (behind_top_colon q m w r i) n l k e g = (g.0, g.1, omega (arith, g.2))
from_later (behind_class q m w) n l k e g = (g.0, omega (arith, g.1))
from_later (in_class_variable q m w v) n l k e g = (g.0, omega (arith, g.1))
from_later (behind_minus q m) n l k e g = (g.0, omega (arith, g.1))
from_later (in_number q m s i) n l k e g = (g.0, omega (arith, g.1))
from_later (in_string q m d s) n l k e g = (g.0, omega (arith, g.1))
from_later (in_escape q m d s) n l k e g = (g.0, omega (arith, g.1))
from_later (behind_equals q m) n l k e g = (g.0, omega (arith, g.1))
from_later broken n l k e g = tt

-- the next line is no earlier one
line_behind_lem : (c l : ℕ) → l ≤ line_behind c l
line_behind_lem c l = go (eqb c 0x0a)
  where
    go : (b : Bool) → l ≤ pick b (suc l) l
    go true = omega arith
    go false = omega arith

-- some tokens, and then others
lines_through : (xs : List Lexeme) (n : ℕ) (P : ℕ → Type 0) (ys : List Lexeme) → ((i : ℕ) → P i → Lines i ys) → Through n xs P → Lines n (xs ++ ys)
lines_through [] n P ys f t = f n t
lines_through (x ∷ xs) n P ys f t = next_line t.0 (lines_through xs (line_of x) P ys f t.1)

-- some bytes
from_lex : (cs : List ℕ) (m : Mode) (n p l : ℕ) → ModeFrom n l m → Lines n (lex cs m p l)
unfolding lex
from_lex [] m n p l g = from_finish m n p l g
from_lex (c ∷ cs) m n p l g = go (λ k i h. from_lex cs k i (suc p) (line_behind c l) h) (step_byte m p l c) (from_step m n p l c g)
  where
    go : ((k : Mode) (i : ℕ) → ModeFrom i (line_behind c l) k → Lines i (lex cs k (suc p) (line_behind c l))) → (r : Read) → ReadFrom n l r → Lines n (elim r as (λ r. List Lexeme) [ reads xs k ↦ xs ++ lex cs k (suc p) (line_behind c l) ])
    go others (reads xs k) h = lines_through xs n (λ i. ModeFrom i l k) (lex cs k (suc p) (line_behind c l)) (λ i t. others k i (from_later k i l (line_behind c l) (line_behind_lem c l) t)) h

-- a text
pub lines_rise : (given : List ℕ) → Lines 0 (tokens given)
unfolding tokens
lines_rise given = from_lex given (between true) 0 0 0 (omega arith)
