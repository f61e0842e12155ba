-- Signs as they are found, and what begins at a byte.
use Prim.Native.Nat.{ℕ, ◌+◌, ◌-◌, ◌≤◌, ◌<◌}
use mathlib.Core.Path.{◌≡◌, refl, sym, ◌∙◌}
use mathlib.Core.Bool.{Bool, true, false, not, ◌&&◌, ◌||◌}
use mathlib.Core.List.{List}
use mathlib.Core.Option.{Option, none, some}
use native.Mathlib.Omega.{arith}
use lib.Dec.{ltb, eqb}
use lib.ListN.{length, get_or, get_or-eq_default}
use borrow.Author.Tests.{ltb-true, ltb-false}
use Rattle.std.specs.Prelude.{Option as CodeOption, Some, None}
use Rattle.rules.proofs.Within.{false_not_true}
use Rattle.notation.specs.Tokens.{mark, end_of_text, malformed, minus_sign, two_equals, arrow, equals, operand_behind, lexeme}
use Rattle.notation.specs.Lexing.{is_space, is_letter, is_digit, is_quote, find, signs, or_else, ends, fails, between, behind_minus, behind_equals, in_number, begins, step_byte, finish}
use Rattle.notation.proofs.Lexing.{no_feed}
use Rattle.lexer.specs.Scanned.{is_gap}
use Rattle.lexer.specs.Numbers.{DigitRead}
use Rattle.lexer.specs.Words.{kind_found}
use Rattle.lexer.specs.Found.{lex_from, tokens_from, plain_token, sign_token, Found}
use Rattle.lexer.proofs.Scanning.{differs, at_the_end, stepped_on}
use Rattle.lexer.proofs.WordNumbers.{kind_bound}
use Rattle.lexer.proofs.Ends.{token_ends, token_closed, broken_here}
use Rattle.lexer.proofs.FoundTokens.{found_end, found_fault, found_mark}
use Rattle.lexer.proofs.FoundNumbers.{digit_range, digit_begins}

-- a byte other than 0 stands in the text
pub stands : (t : List ℕ) (i c : ℕ) → get_or t i 0 ≡ c → 0 < c → i < length t
stands t i c e h = go (ltb i (length t)) refl
  where
    go : (b : Bool) → ltb i (length t) ≡ b → i < length t
    go true j = ltb-true i (length t) j
    go false j = let none : get_or t i 0 ≡ 0 = get_or-eq_default t 0 (ltb-false i (length t) j) in absurd (omega arith)

-- ---- The end

pub end_found : (t : List ℕ) (p l : ℕ) (o : Bool) → l ≤ p → p ≤ length t → length t ≤ p → Found t p l o (plain_token end_of_text p l p)
unfolding finish
end_found t p l o bound high end = found_end t p l o bound high (at_the_end t p (between o) l end)

-- ---- =

module _ (t : List ℕ) (p l : ℕ) (o : Bool) (bound : l ≤ p) (high : p < length t) (here : get_or t p 0 ≡ 0x3d) where
  equals_begun : tokens_from t p l o ≡ lex_from t (p + 1) l (behind_equals p l)
  unfolding step_byte begins is_quote
  equals_begun = stepped_on t p (between o) (behind_equals p l) l high (rw here) (rw here)

  pub two_equals_found : get_or t (p + 1) 0 ≡ 0x3d → Found t p l o (plain_token two_equals p l (p + 1 + 1))
  unfolding step_byte
  two_equals_found e =
      let next = stands t (p + 1) 0x3d e (omega arith) in
      found_mark t p l o bound two_equals (p + 1 + 1) (omega arith) (omega arith) (omega arith) (equals_begun ∙ token_closed t (p + 1) (behind_equals p l) l (lexeme p l (mark two_equals)) (operand_behind two_equals) next (rw e) (rw e))

  pub arrow_found : get_or t (p + 1) 0 ≡ 0x3e → Found t p l o (plain_token arrow p l (p + 1 + 1))
  unfolding step_byte
  arrow_found e =
      let next = stands t (p + 1) 0x3e e (omega arith) in
      found_mark t p l o bound arrow (p + 1 + 1) (omega arith) (omega arith) (omega arith) (equals_begun ∙ token_closed t (p + 1) (behind_equals p l) l (lexeme p l (mark arrow)) (operand_behind arrow) next (rw e) (rw e))

  pub equals_found : eqb (get_or t (p + 1) 0) 0x3d ≡ false → eqb (get_or t (p + 1) 0) 0x3e ≡ false → Found t p l o (plain_token equals p l (p + 1))
  unfolding step_byte finish
  equals_found e f =
      found_mark t p l o bound equals (p + 1) (omega arith) (omega arith) (omega arith) (equals_begun ∙ token_ends t (p + 1) (behind_equals p l) l (lexeme p l (mark equals)) (operand_behind equals) (λ j. rw (e, f)) refl)

-- ---- - and numbers

pub number_begun : (t : List ℕ) (p l : ℕ) (o : Bool) → p < length t → is_digit (get_or t p 0) ≡ true → DigitRead t p l o p false
unfolding step_byte
number_begun t p l o high h = record { same_tokens = stepped_on t p (between o) (in_number p l false (get_or t p 0 - 0x30)) l high (digit_begins o (get_or t p 0) p l h) (no_feed (get_or t p 0) (digit_range (get_or t p 0) h).0) }

pub digit_stands : (t : List ℕ) (i : ℕ) → is_digit (get_or t i 0) ≡ true → i < length t
digit_stands t i h = stands t i (get_or t i 0) refl (omega (arith, (digit_range (get_or t i 0) h).0))

module _ (t : List ℕ) (p l : ℕ) (bound : l ≤ p) (high : p < length t) (here : get_or t p 0 ≡ 0x2d) where
  minus_begun : tokens_from t p l true ≡ lex_from t (p + 1) l (behind_minus p l)
  unfolding step_byte begins
  minus_begun = stepped_on t p (between true) (behind_minus p l) l high (rw here) (rw here)

  pub minus_number : is_digit (get_or t (p + 1) 0) ≡ true → DigitRead t p l true (p + 1) true
  unfolding step_byte
  minus_number h = record { same_tokens = minus_begun ∙ stepped_on t (p + 1) (behind_minus p l) (in_number p l true (get_or t (p + 1) 0 - 0x30)) l (digit_stands t (p + 1) h) (rw h) (no_feed (get_or t (p + 1) 0) (digit_range (get_or t (p + 1) 0) h).0) }

  pub minus_found : is_digit (get_or t (p + 1) 0) ≡ false → Found t p l true (plain_token minus_sign p l (p + 1))
  unfolding step_byte finish
  minus_found h =
      found_mark t p l true bound minus_sign (p + 1) (omega arith) (omega arith) (omega arith) (minus_begun ∙ token_ends t (p + 1) (behind_minus p l) l (lexeme p l (mark minus_sign)) (operand_behind minus_sign) (λ j. rw h) refl)

-- ---- Signs of one byte

-- the code's token by the kind found
pub sign_meant : (k : ℕ) (r : CodeOption ℕ) (x : Option ℕ) (p l : ℕ) → kind_found r ≡ x → r ≡ Some k → plain_token k p l (p + 1) ≡ sign_token x p l
sign_meant k r x p l e h = rw (sym e, h)

pub no_sign_meant : (r : CodeOption ℕ) (x : Option ℕ) (p l : ℕ) → kind_found r ≡ x → r ≡ None → plain_token malformed p l p ≡ sign_token x p l
no_sign_meant r x p l e h = rw (sym e, h)

-- a byte that is no gap begins something
gap_parts : (c : ℕ) → is_gap c ≡ false → (is_space c ≡ false) × (eqb c 0x23 ≡ false) × (eqb c 0x0a ≡ false)
gap_parts c h = (go (is_space c) refl h, differs (λ (x : ℕ). not (is_gap x)) c 0x23 (rw h) refl, differs (λ (x : ℕ). not (is_gap x)) c 0x0a (rw h) refl)
  where
    go : (b : Bool) → is_space c ≡ b → (b || eqb c 0x23) ≡ false → is_space c ≡ false
    go true e f = false_not_true (sym f)
    go false e f = e

-- a byte that begins nothing else
module _ (t : List ℕ) (p l : ℕ) (o : Bool) (bound : l ≤ p) (high : p < length t) (gap : is_gap (get_or t p 0) ≡ false) where
  -- what it begins, by the signs
  by_sign : (x : Option ℕ) → find (get_or t p 0) signs ≡ x → step_byte (between o) p l (get_or t p 0) ≡ or_else x (λ k. ends p l (mark k)) (fails p l) → Found t p l o (sign_token x p l)
  by_sign none e f = found_fault t p l o bound (omega arith) (broken_here t p (between o) l p l high f)
  by_sign (some k) e f =
      found_mark t p l o bound k (p + 1) (kind_bound signs (get_or t p 0) k refl e) (omega arith) (omega arith) (token_closed t p (between o) l (lexeme p l (mark k)) (operand_behind k) high f (rw (gap_parts (get_or t p 0) gap).2))

  pub sign_found : is_letter (get_or t p 0) ≡ false → eqb (get_or t p 0) 0x24 ≡ false → is_digit (get_or t p 0) ≡ false → (eqb (get_or t p 0) 0x2d && o) ≡ false → is_quote (get_or t p 0) ≡ false → eqb (get_or t p 0) 0x3d ≡ false
      → Found t p l o (sign_token (find (get_or t p 0) signs) p l)
  unfolding step_byte begins
  sign_found letter dollar digit minus quote equal =
      let parts = gap_parts (get_or t p 0) gap in
      by_sign (find (get_or t p 0) signs) refl (rw (parts.0, parts.1, letter, dollar, digit, minus, quote, equal))
