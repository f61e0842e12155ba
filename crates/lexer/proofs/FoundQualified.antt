-- Variables with colons as they are found.
use Prim.Native.Nat.{ℕ, suc, ◌+◌, ◌≤◌, ◌<◌}
use mathlib.Core.Path.{◌≡◌, refl, sym, ap, ◌∙◌}
use mathlib.Core.Bool.{Bool, true, false, ◌&&◌}
use mathlib.Core.List.{List, ◌∷◌, ◌++◌}
use native.Mathlib.Omega.{arith}
use lib.Dec.{ltb, eqb}
use lib.IntN.{pos}
use lib.ListN.{length, get_or, drop}
use lib.Seq.{slice, drop-cons}
use borrow.Author.Tests.{eqb-true, ne_eqb, ltb-true, ltb-false}
use Rattle.notation.specs.Tokens.{Token, top_variable, class_variable, mark, kind, a_qualified, malformed, colon, operand_behind, Lexeme, lexeme}
use Rattle.notation.specs.Lexing.{is_letter, is_quote, name_token, between, behind_dollar, behind_dollar_colon, behind_top, in_top, behind_top_colon, behind_class, in_class_variable, Read, reads, with, begins, step_byte, finish, line_behind, lex}
use Rattle.notation.proofs.Lexing.{both_true, Gathers}
use Rattle.lexer.specs.declared.Token as found
use Rattle.lexer.specs.Scanned.{WordRun, two_colons, TopRead}
use Rattle.lexer.specs.Words.{name_fits}
use Rattle.lexer.specs.Found.{lex_from, tokens_from, plain_token, token_in, Begins, Found}
use Rattle.lexer.proofs.Scanning.{at_the_end, stepped_to}
use Rattle.lexer.proofs.Ends.{token_ends, token_closed, begins_behind, begins_token, breaks_off, with_letter, name_read}
use Rattle.lexer.proofs.FoundTokens.{Gives, found_token, found_fault, found_top}
use Rattle.lexer.proofs.FoundNames.{name_meant, name_sized, dollar_read}

-- the tokens of $::x and $::a::x, or malformed ones
abbrev top_token : List ℕ → Token
top_token w = name_token w (top_variable w)

abbrev class_variable_token : (class name : List ℕ) → Token
class_variable_token w v = name_token w (name_token v (class_variable w v))

-- ---- $::

-- $ and a colon
module _ (t : List ℕ) (p l : ℕ) (o : Bool) (high : p + 1 < length t) (dollar : get_or t p 0 ≡ 0x24) (first : get_or t (p + 1) 0 ≡ 0x3a) where
  colon_read : tokens_from t p l o ≡ lex_from t (p + 2) l (behind_dollar_colon p l)
  unfolding step_byte
  colon_read = dollar_read t p l o (omega arith) dollar ∙ stepped_to t (p + 1) (p + 2) (behind_dollar p l) (behind_dollar_colon p l) l (omega arith) high (rw first) (rw first)

  -- and a second one
  colons_read : p + 2 < length t → get_or t (p + 2) 0 ≡ 0x3a → tokens_from t p l o ≡ lex_from t (p + 3) l (behind_top p l)
  unfolding step_byte
  colons_read h second = colon_read ∙ stepped_to t (p + 2) (p + 3) (behind_dollar_colon p l) (behind_top p l) l (omega arith) h (rw second) (rw second)

  -- no letter follows
  pub top_faulty : l ≤ p → (p + 3 < length t → get_or t (p + 2) 0 ≡ 0x3a → is_letter (get_or t (p + 3) 0) ≡ false) → Found t p l o (plain_token malformed p l p)
  unfolding step_byte finish
  top_faulty bound f = found_fault t p l o bound (omega arith) (go (ltb (p + 2) (length t)) (eqb (get_or t (p + 2) 0) 0x3a) refl refl)
    where
      broken_at : (p + 2 < length t → eqb (get_or t (p + 2) 0) 0x3a ≡ false) → Begins (lexeme p l (mark malformed)) (tokens_from t p l o)
      broken_at g = begins_behind colon_read (breaks_off t (p + 2) (behind_dollar_colon p l) l p l (λ i. rw (g i)) refl)

      go : (a b : Bool) → ltb (p + 2) (length t) ≡ a → eqb (get_or t (p + 2) 0) 0x3a ≡ b → Begins (lexeme p l (mark malformed)) (tokens_from t p l o)
      go a false i j = broken_at (λ h. j)
      go false true i j = let short = ltb-false (p + 2) (length t) i in broken_at (λ h. absurd (omega arith))
      go true true i j =
          let second = eqb-true (get_or t (p + 2) 0) 0x3a j in
          begins_behind (colons_read (ltb-true (p + 2) (length t) i) second) (breaks_off t (p + 3) (behind_top p l) l p l (λ h. rw (f h second)) refl)

in_top_gathers : (q m : ℕ) → Gathers (in_top q m)
unfolding step_byte
in_top_gathers q m v c p l h = rw h

-- $::a is read up to e
pub top_read : (t : List ℕ) (p l e : ℕ) → l ≤ p → get_or t p 0 ≡ 0x24 → get_or t (p + 1) 0 ≡ 0x3a → get_or t (p + 2) 0 ≡ 0x3a → is_letter (get_or t (p + 3) 0) ≡ true → WordRun t (p + 4) e → TopRead t p l e
unfolding step_byte
top_read t p l e bound dollar first second letter run = record {
  line_bound = bound;
  some_byte = omega (arith, run.low);
  run = with_letter t (p + 3) (p + 4) e (omega arith) letter run;
  same_tokens = λ o. colons_read t p l o (omega (arith, run.low, run.high)) dollar first (omega (arith, run.low, run.high)) second
      ∙ name_read (in_top p l) (in_top_gathers p l) (behind_top p l) t (p + 3) (p + 4) e l (λ c i. rw i) (omega arith) letter run;
}

-- ---- The end of $::x

-- a colon that no other follows is a token of its own
colon_let_go : (q m : ℕ) (w : List ℕ) (i j : ℕ) (d : ℕ) (ds : List ℕ) (p l : ℕ) → eqb d 0x3a ≡ false
    → lex (d ∷ ds) (behind_top_colon q m w i j) p l ≡ lexeme q m (top_token w) ∷ lexeme i j (mark colon) ∷ lex (d ∷ ds) (between (operand_behind colon)) p l
unfolding lex step_byte
colon_let_go q m w i j d ds p l e = rw (lex, e) (go (begins (operand_behind colon) p l d))
  where
    x : Lexeme
    x = lexeme q m (top_token w)

    y : Lexeme
    y = lexeme i j (mark colon)

    go : (r : Read) → ◌≡◌ {A = List Lexeme} (elim (with x (with y r)) as (λ r. List Lexeme) [ reads xs n ↦ xs ++ lex ds n (suc p) (line_behind d l) ]) (x ∷ y ∷ elim r as (λ r. List Lexeme) [ reads xs n ↦ xs ++ lex ds n (suc p) (line_behind d l) ])
    go (reads xs n) = refl

module _ (t : List ℕ) (e l : ℕ) (high : e < length t) (here : get_or t e 0 ≡ 0x3a) where
  -- a colon between two tokens
  colon_closed : (o : Bool) → tokens_from t e l o ≡ lexeme e l (mark colon) ∷ tokens_from t (e + 1) l (operand_behind colon)
  unfolding step_byte begins is_quote
  colon_closed o = token_closed t e (between o) l (lexeme e l (mark colon)) (operand_behind colon) high (rw here) (rw here)

  -- a colon behind the name, held until it is known that no other follows
  colon_held : (p k : ℕ) (w : List ℕ) → two_colons t e ≡ false → lex_from t e l (in_top p k w) ≡ lexeme p k (top_token w) ∷ lexeme e l (mark colon) ∷ tokens_from t (e + 1) l (operand_behind colon)
  unfolding step_byte finish
  colon_held p k w single = stepped_to t e (e + 1) (in_top p k w) (behind_top_colon p k w e l) l refl high (rw here) (rw here) ∙ go (ltb (e + 1) (length t)) refl single
    where
      Goal : Type 0
      Goal = lex_from t (e + 1) l (behind_top_colon p k w e l) ≡ lexeme p k (top_token w) ∷ lexeme e l (mark colon) ∷ tokens_from t (e + 1) l (operand_behind colon)

      go : (b : Bool) → ltb (e + 1) (length t) ≡ b → (b && (eqb (get_or t e 0) 0x3a && eqb (get_or t (e + 1) 0) 0x3a)) ≡ false → Goal
      go true i j =
          let other : eqb (get_or t (e + 1) 0) 0x3a ≡ false = rw here at j in
          rw (drop-cons t (e + 1) 0 (ltb-true (e + 1) (length t) i)) (colon_let_go p k w e l (get_or t (e + 1) 0) (drop (suc (e + 1)) t) (e + 1) l other)
      go false i j =
          let end = ltb-false (e + 1) (length t) i in
          at_the_end t (e + 1) (behind_top_colon p k w e l) l end
          ∙ ap (λ (xs : List Lexeme). lexeme p k (top_token w) ∷ lexeme e l (mark colon) ∷ xs) (sym (at_the_end t (e + 1) (between (operand_behind colon)) l end))

-- where no two colons follow, the token ends
module _ (t : List ℕ) (p l e : ℕ) (top : TopRead t p l e) (o : Bool) where
  top_ends : two_colons t e ≡ false → Gives t p l o (top_token (slice (p + 3) e t)) e l
  unfolding step_byte finish
  top_ends single = top.same_tokens o ∙ go (ltb e (length t)) (eqb (get_or t e 0) 0x3a) refl refl
    where
      Goal : Type 0
      Goal = lex_from t e l (in_top p l (slice (p + 3) e t)) ≡ lexeme p l (top_token (slice (p + 3) e t)) ∷ tokens_from t e l (operand_behind (kind (top_token (slice (p + 3) e t))))

      at_other : (e < length t → eqb (get_or t e 0) 0x3a ≡ false) → Goal
      at_other g = token_ends t e (in_top p l (slice (p + 3) e t)) l _ _ (λ j. rw (top.run.stops j, g j)) refl

      go : (a b : Bool) → ltb e (length t) ≡ a → eqb (get_or t e 0) 0x3a ≡ b → Goal
      go a false i j = at_other (λ h. j)
      go false true i j = let end = ltb-false e (length t) i in at_other (λ h. absurd (omega arith))
      go true true i j =
          let high = ltb-true e (length t) i in
          let here = eqb-true (get_or t e 0) 0x3a j in
          colon_held t e l high here p l (slice (p + 3) e t) single ∙ ap (λ (xs : List Lexeme). lexeme p l (top_token (slice (p + 3) e t)) ∷ xs) (sym (colon_closed t e l high here _))

  pub top_no_name : two_colons t e ≡ false → name_fits (slice (p + 3) e t) ≡ false → Found t p l o (plain_token malformed p l p)
  top_no_name single h =
      found_fault t p l o top.line_bound (omega (arith, top.some_byte, top.run.high)) (begins_token (top_ends single) (name_meant (slice (p + 3) e t) (top_variable (slice (p + 3) e t)) false h))

  pub top_found : two_colons t e ≡ false → name_fits (slice (p + 3) e t) ≡ true → Found t p l o (plain_token a_qualified p l e)
  top_found single h =
      let meant = name_meant (slice (p + 3) e t) (top_variable (slice (p + 3) e t)) true h in
      found_top t p l o top.line_bound e (name_sized t (p + 3) e top.some_byte top.run h) top.run.high (rw meant at (top_ends single))

-- ---- $::a::x

in_class_variable_gathers : (q m : ℕ) (w : List ℕ) → Gathers (in_class_variable q m w)
unfolding step_byte
in_class_variable_gathers q m w v c p l h = rw h

-- the token that the code gives for it
abbrev pub class_token : (p l middle e : ℕ) → found.Token
class_token p l i e = record { kind = a_qualified; start = p; line = l; end = e; line_behind = l; class_end = i; value = pos 0 }

-- $::a up to i, where two colons stand
module _ (t : List ℕ) (p l i : ℕ) (top : TopRead t p l i) (colons : two_colons t i ≡ true) (o : Bool) where
  class_begun : tokens_from t p l o ≡ lex_from t (i + 2) l (behind_class p l (slice (p + 3) i t))
  unfolding step_byte
  class_begun =
      let a = both_true (ltb (i + 1) (length t)) (eqb (get_or t i 0) 0x3a && eqb (get_or t (i + 1) 0) 0x3a) colons in
      let b = both_true (eqb (get_or t i 0) 0x3a) (eqb (get_or t (i + 1) 0) 0x3a) a.1 in
      let high = ltb-true (i + 1) (length t) a.0 in
      let first = eqb-true (get_or t i 0) 0x3a b.0 in
      let second = eqb-true (get_or t (i + 1) 0) 0x3a b.1 in
      let w = slice (p + 3) i t in
      top.same_tokens o
      ∙ stepped_to t i (i + 1) (in_top p l w) (behind_top_colon p l w i l) l refl (omega arith) (rw first) (rw first)
      ∙ stepped_to t (i + 1) (i + 2) (behind_top_colon p l w i l) (behind_class p l w) l (omega arith) high (rw second) (rw second)

  low : p ≤ length t
  low = omega (arith, top.some_byte, top.run.high)

  -- no letter follows
  pub class_faulty : (i + 2 < length t → is_letter (get_or t (i + 2) 0) ≡ false) → Found t p l o (plain_token malformed p l p)
  unfolding step_byte finish
  class_faulty f = found_fault t p l o top.line_bound low (begins_behind class_begun (breaks_off t (i + 2) (behind_class p l (slice (p + 3) i t)) l p l (λ h. rw (f h)) refl))

  -- a name follows, up to e
  module _ (e : ℕ) (letter : is_letter (get_or t (i + 2) 0) ≡ true) (run : WordRun t (i + 2 + 1) e) where
    class_read_lem : Gives t p l o (class_variable_token (slice (p + 3) i t) (slice (i + 2) e t)) e l
    unfolding step_byte finish
    class_read_lem =
        let w = slice (p + 3) i t in
        class_begun
        ∙ name_read (in_class_variable p l w) (in_class_variable_gathers p l w) (behind_class p l w) t (i + 2) (i + 2 + 1) e l (λ c j. rw j) refl letter run
        ∙ token_ends t e (in_class_variable p l w (slice (i + 2) e t)) l _ _ (λ j. rw (run.stops j)) refl

    -- the class has no name
    pub class_no_name : name_fits (slice (p + 3) i t) ≡ false → Found t p l o (plain_token malformed p l p)
    class_no_name h = found_fault t p l o top.line_bound low (begins_token class_read_lem (name_meant (slice (p + 3) i t) _ false h))

    -- or the variable has none
    pub variable_no_name : name_fits (slice (p + 3) i t) ≡ true → name_fits (slice (i + 2) e t) ≡ false → Found t p l o (plain_token malformed p l p)
    variable_no_name h j = found_fault t p l o top.line_bound low (begins_token class_read_lem (name_meant (slice (p + 3) i t) _ true h ∙ name_meant (slice (i + 2) e t) _ false j))

    pub class_found : name_fits (slice (p + 3) i t) ≡ true → name_fits (slice (i + 2) e t) ≡ true → Found t p l o (class_token p l i e)
    unfolding token_in
    class_found h j =
        let meant = name_meant (slice (p + 3) i t) (name_token (slice (i + 2) e t) (class_variable (slice (p + 3) i t) (slice (i + 2) e t))) true h ∙ name_meant (slice (i + 2) e t) (class_variable (slice (p + 3) i t) (slice (i + 2) e t)) true j in
        let class-named = name_sized t (p + 3) i top.some_byte top.run h in
        let named = name_sized t (i + 2) e (omega (arith, run.low)) (with_letter t (i + 2) (i + 2 + 1) e refl letter run) j in
        let later : eqb i 0 ≡ false = ne_eqb i 0 (λ z. omega (arith, top.some_byte)) in
        found_token t p l o top.line_bound (class_token p l i e) refl refl (omega (arith, top.some_byte, run.low)) run.high (omega arith) (omega (arith, top.line_bound, top.some_byte, run.low)) (λ g. omega arith) (λ g. omega arith)
        record {
          word_size = λ g. absurd (omega arith);
          variable_size = λ g. absurd (omega arith);
          top_size = λ g z. absurd (omega (arith, top.some_byte));
          class_size = λ g z. (class-named, named);
          no_class = λ g. absurd (g refl);
          text_size = λ g. absurd (omega arith);
          text_spelled = λ g. absurd (omega arith);
        }
        (rw later (rw meant at class_read_lem))
