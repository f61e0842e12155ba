-- Words and variables as they are found.
use Prim.Native.Nat.{ℕ, ◌+◌, ◌-◌, ◌≤◌, ◌<◌}
use mathlib.Core.Path.{◌≡◌, refl, sym, ◌∙◌}
use mathlib.Core.Bool.{Bool, true, false, ◌&&◌}
use mathlib.Core.List.{List}
use mathlib.Core.Option.{Option, none, some}
use native.Mathlib.Omega.{arith}
use lib.Dec.{leb, eqb}
use lib.ListN.{length, get_or}
use lib.Seq.{slice, length-slice}
use borrow.Author.Tests.{leb-true, le-leb, lt-leb}
use Rattle.std.specs.Prelude.{not, Option as CodeOption, Some, None}
use Rattle.std.specs.Option.{is_some, unwrap_or}
use Rattle.rules.specs.Bytes.{pick}
use Rattle.notation.specs.Tokens.{Token, word, variable, mark, kind, a_variable, malformed, operand_behind, lexeme}
use Rattle.notation.specs.Lexing.{is_letter, keywords, keyword_in, word_token, name_token, between, in_name, behind_dollar, in_variable, begins, step_byte, finish}
use Rattle.notation.specs.Printer.{no_keyword}
use Rattle.notation.proofs.Lexing.{both_true, Gathers, letter_begins}
use Rattle.lexer.specs.Scanned.{WordRun}
use Rattle.lexer.specs.Words.{kind_found, name_fits}
use Rattle.lexer.specs.Found.{lex_from, tokens_from, plain_token, Named, Found}
use Rattle.lexer.proofs.Scanning.{stepped_on}
use Rattle.lexer.proofs.WordNumbers.{run_in_word, keyword_bound}
use Rattle.lexer.proofs.Ends.{token_ends, breaks_off, begins_behind, begins_token, with_letter, name_read}
use Rattle.lexer.proofs.Spelling.{run_spelled}
use Rattle.lexer.proofs.FoundTokens.{Gives, found_fault, found_mark, found_word, found_variable}

-- ---- Words

in_name_gathers : (q m : ℕ) → Gathers (in_name q m)
unfolding step_byte
in_name_gathers q m v c p l h = rw h

-- the word from p to e
module _ (t : List ℕ) (p l : ℕ) (o : Bool) (e : ℕ) (letter : is_letter (get_or t p 0) ≡ true) (run : WordRun t (p + 1) e) where
  word_read : Gives t p l o (word_token (slice p e t)) e l
  unfolding step_byte finish
  word_read =
      let w = slice p e t in
      name_read (in_name p l) (in_name_gathers p l) (between o) t p (p + 1) e l (λ c i. letter_begins o c p l i) refl letter run
      ∙ token_ends t e (in_name p l w) l (lexeme p l (word_token w)) (operand_behind (kind (word_token w))) (λ j. rw (run.stops j)) refl

  -- it is too long
  pub word_too_long : l ≤ p → 255 < e - p → Found t p l o (plain_token malformed p l p)
  unfolding word_token
  word_too_long bound h =
      let size = length-slice p e t run.high in
      let long : word_token (slice p e t) ≡ mark malformed = rw (lt-leb (length (slice p e t)) 255 (omega arith)) in
      found_fault t p l o bound (omega (arith, run.low, run.high)) (begins_token word_read long)

  -- it is the keyword k, or none
  pub word_found : l ≤ p → e - p ≤ 255 → (r : CodeOption ℕ) → kind_found r ≡ keyword_in keywords (slice p e t) → Found t p l o (plain_token (unwrap_or r 0) p l e)
  unfolding word_token
  word_found bound h r f = go r f
    where
      short : leb (length (slice p e t)) 255 ≡ true
      short = le-leb (length (slice p e t)) 255 (omega (arith, length-slice p e t run.high))

      go : (r : CodeOption ℕ) → kind_found r ≡ keyword_in keywords (slice p e t) → Found t p l o (plain_token (unwrap_or r 0) p l e)
      go None f =
          let no : keyword_in keywords (slice p e t) ≡ none = sym f in
          let meant : word_token (slice p e t) ≡ word (slice p e t) = rw (short, no) in
          found_word t p l o bound e record { some_byte = omega (arith, run.low); at_most_255 = omega arith; spelled = run_spelled t p e (omega (arith, run.low)) (with_letter t p (p + 1) e refl letter run) } run.high (rw meant at word_read)
      go (Some k) f =
          let some_keyword : keyword_in keywords (slice p e t) ≡ some k = sym f in
          let meant : word_token (slice p e t) ≡ mark k = rw (short, some_keyword) in
          let all = run_in_word t e (e - p) p (omega (arith, run.low)) run.high (with_letter t p (p + 1) e refl letter run).inside in
          found_mark t p l o bound k e (keyword_bound (slice p e t) k all some_keyword) (omega (arith, run.low)) run.high (rw meant at word_read)

-- ---- Names

-- what a name is, by the test
pub name_meant : (w : List ℕ) (x : Token) (b : Bool) → name_fits w ≡ b → name_token w x ≡ pick b x (mark malformed)
unfolding name_fits name_token no_keyword
name_meant w x b e = go (leb (length w) 255) (keyword_in keywords w) refl refl e
  where
    go : (s : Bool) (k : Option ℕ) → leb (length w) 255 ≡ s → keyword_in keywords w ≡ k → (s && no_keyword k) ≡ b → name_token w x ≡ pick b x (mark malformed)
    go true none i j f = rw (i, j, sym f)
    go true (some k) i j f = rw (i, j, sym f)
    go false k i j f = rw (i, sym f)

pub name_sized : (t : List ℕ) (a e : ℕ) → a < e → WordRun t a e → name_fits (slice a e t) ≡ true → Named t a e
unfolding name_fits
name_sized t a e low run h =
    let short = leb-true (length (slice a e t)) 255 (both_true (leb (length (slice a e t)) 255) (no_keyword (keyword_in keywords (slice a e t))) h).0 in
    let size = length-slice a e t run.high in
    record { some_byte = low; at_most_255 = omega arith; spelled = run_spelled t a e low run }

-- the test of the code
pub long_no_name : (w : List ℕ) → 255 < length w → name_fits w ≡ false
unfolding name_fits
long_no_name w h = rw (lt-leb (length w) 255 h)

pub name_by_kind : (w : List ℕ) (r : CodeOption ℕ) → length w ≤ 255 → kind_found r ≡ keyword_in keywords w → name_fits w ≡ not (is_some r)
unfolding name_fits no_keyword
name_by_kind w r h e = rw (le-leb (length w) 255 h, sym e) (go r)
  where
    go : (r : CodeOption ℕ) → no_keyword (kind_found r) ≡ not (is_some r)
    go None = refl
    go (Some k) = refl

-- ---- $x

-- its token, or a malformed one
abbrev variable_token : List ℕ → Token
variable_token w = name_token w (variable w)

in_variable_gathers : (q m : ℕ) → Gathers (in_variable q m)
unfolding step_byte
in_variable_gathers q m v c p l h = rw h

-- $ begins a variable
pub dollar_read : (t : List ℕ) (p l : ℕ) (o : Bool) → p < length t → get_or t p 0 ≡ 0x24 → tokens_from t p l o ≡ lex_from t (p + 1) l (behind_dollar p l)
unfolding step_byte begins
dollar_read t p l o h e = stepped_on t p (between o) (behind_dollar p l) l h (rw e) (rw e)

-- it goes on with a letter or a colon
pub dollar_alone : (t : List ℕ) (p l : ℕ) (o : Bool) → l ≤ p → p < length t → get_or t p 0 ≡ 0x24
    → (p + 1 < length t → (is_letter (get_or t (p + 1) 0) ≡ false) × (eqb (get_or t (p + 1) 0) 0x3a ≡ false)) → Found t p l o (plain_token malformed p l p)
unfolding step_byte finish
dollar_alone t p l o bound h e f =
    found_fault t p l o bound (omega arith) (begins_behind (dollar_read t p l o h e) (breaks_off t (p + 1) (behind_dollar p l) l p l (λ i. rw ((f i).0, (f i).1)) refl))

-- the variable up to e
module _ (t : List ℕ) (p l : ℕ) (o : Bool) (e : ℕ) (dollar : get_or t p 0 ≡ 0x24) (letter : is_letter (get_or t (p + 1) 0) ≡ true) (run : WordRun t (p + 2) e) where
  variable_read : Gives t p l o (variable_token (slice (p + 1) e t)) e l
  unfolding step_byte finish
  variable_read =
      let w = slice (p + 1) e t in
      let x = variable_token w in
      dollar_read t p l o (omega (arith, run.low, run.high)) dollar
      ∙ name_read (in_variable p l) (in_variable_gathers p l) (behind_dollar p l) t (p + 1) (p + 2) e l (λ c i. rw i) (omega arith) letter run
      ∙ token_ends t e (in_variable p l w) l (lexeme p l x) (operand_behind (kind x)) (λ j. rw (run.stops j)) refl

  pub variable_faulty : l ≤ p → name_fits (slice (p + 1) e t) ≡ false → Found t p l o (plain_token malformed p l p)
  variable_faulty bound h =
      found_fault t p l o bound (omega (arith, run.low, run.high)) (begins_token variable_read (name_meant (slice (p + 1) e t) (variable (slice (p + 1) e t)) false h))

  pub variable_found : l ≤ p → name_fits (slice (p + 1) e t) ≡ true → Found t p l o (plain_token a_variable p l e)
  variable_found bound h =
      let meant = name_meant (slice (p + 1) e t) (variable (slice (p + 1) e t)) true h in
      found_variable t p l o bound e (name_sized t (p + 1) e (omega (arith, run.low)) (with_letter t (p + 1) (p + 2) e (omega arith) letter run) h) run.high (rw meant at variable_read)
