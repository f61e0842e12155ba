-- What is found, for each kind of token, from what the lexer gives at its first byte.
use Prim.Native.Nat.{ℕ, ◌+◌, ◌≤◌, ◌<◌}
use mathlib.Core.Path.{◌≡◌, refl, sym, ap, ◌∙◌}
use mathlib.Core.Bool.{Bool, true, false}
use mathlib.Core.List.{List, [], ◌∷◌}
use native.Mathlib.Omega.{arith}
use lib.ListN.{length}
use lib.Seq.{slice}
use borrow.Author.Tests.{ne_eqb}
use Rattle.rules.proofs.Within.{false_not_true}
use Rattle.notation.specs.Tokens.{Token, word, variable, top_variable, mark, kind, a_word, a_text, a_variable, a_qualified, end_of_text, malformed, operand_behind, is_among, lexeme}
use Rattle.lexer.specs.declared.Token as found
use Rattle.lexer.specs.declared.Spot.{Spot}
use Rattle.lexer.specs.Scanned.{Skipped}
use Rattle.lexer.specs.Found.{tokens_from, token_in, plain_token, Named, Sized, Begins, Found}

-- white space and comments before a token do not change it
pub found_behind : {t : List ℕ} {a b : Spot} {o : Bool} {r : found.Token} → Skipped t a b → Found t b.at b.line o r → Found t a.at a.line o r
found_behind {t} {a} {b} {o} {r} s f = record {
  low = omega (arith, s.low, f.low);
  high = f.high;
  forward = f.forward;
  line_low = omega (arith, s.line_low, f.line_low);
  line_forward = f.line_forward;
  line_bound = f.line_bound;
  line_behind_bound = f.line_behind_bound;
  sized = f.sized;
  same_tokens = s.same_tokens o ∙ f.same_tokens;
  at_end = λ e. s.same_tokens o ∙ f.at_end e;
  at_fault = λ e. let g = f.at_fault e in record { rest = g.rest; begins = s.same_tokens o ∙ g.begins };
  some_byte = f.some_byte;
  first = λ e g. s.same_tokens o ∙ f.first e g;
}

-- ---- Tokens that hold no name

abbrev holders : List ℕ
holders = a_word ∷ a_text ∷ a_variable ∷ a_qualified ∷ []

pub nameless : (t : List ℕ) (r : found.Token) → is_among r.kind holders ≡ false → r.class_end ≡ 0 → Sized t r
nameless t r h class = record {
  word_size = λ e. no_holder a_word refl e;
  variable_size = λ e. no_holder a_variable refl e;
  top_size = λ e f. no_holder a_qualified refl e;
  class_size = λ e f. no_holder a_qualified refl e;
  no_class = λ e. class;
  text_size = λ e. no_holder a_text refl e;
  text_spelled = λ e. no_holder a_text refl e;
}
  where
    no_holder : {A : Type 0} (k : ℕ) → is_among k holders ≡ true → r.kind ≡ k → A
    no_holder k i e = false_not_true (sym h ∙ ap (λ (x : ℕ). is_among x holders) e ∙ i)

-- ---- The end, faults and tokens, at p on line l

-- the text from p on gives the token x, and those from e on, which is on line k
abbrev pub Gives : (t : List ℕ) (p l : ℕ) (o : Bool) → Token → (e k : ℕ) → Type 0
Gives t p l o x e k = tokens_from t p l o ≡ lexeme p l x ∷ tokens_from t e k (operand_behind (kind x))

module _ (t : List ℕ) (p l : ℕ) (o : Bool) (bound : l ≤ p) where
  -- the end of the text
  pub found_end : p ≤ length t → tokens_from t p l o ≡ lexeme p l (mark end_of_text) ∷ [] → Found t p l o (plain_token end_of_text p l p)
  found_end h e = record {
    low = omega arith;
    high = h;
    forward = omega arith;
    line_low = omega arith;
    line_forward = omega arith;
    line_bound = bound;
    line_behind_bound = bound;
    sized = nameless t (plain_token end_of_text p l p) refl refl;
    same_tokens = refl;
    at_end = λ f. e;
    at_fault = λ f. absurd (omega arith);
    some_byte = λ f g. absurd (f refl);
    first = λ f g. absurd (f refl);
  }

  -- a malformed piece
  pub found_fault : p ≤ length t → Begins (lexeme p l (mark malformed)) (tokens_from t p l o) → Found t p l o (plain_token malformed p l p)
  found_fault h e = record {
    low = omega arith;
    high = h;
    forward = omega arith;
    line_low = omega arith;
    line_forward = omega arith;
    line_bound = bound;
    line_behind_bound = bound;
    sized = nameless t (plain_token malformed p l p) refl refl;
    same_tokens = refl;
    at_end = λ f. absurd (omega arith);
    at_fault = λ f. e;
    some_byte = λ f g. absurd (g refl);
    first = λ f g. absurd (g refl);
  }

  -- any other token r that begins here
  pub found_token : (r : found.Token) → r.start ≡ p → r.line ≡ l → p < r.end → r.end ≤ length t → l ≤ r.line_behind → r.line_behind ≤ r.end
      → (r.kind ≡ end_of_text → ⊥) → (r.kind ≡ malformed → ⊥) → Sized t r
      → tokens_from t p l o ≡ lexeme p l (token_in t r) ∷ tokens_from t r.end r.line_behind (operand_behind r.kind)
      → Found t p l o r
  found_token r start line more high rises behind no_end no-fault sized e = record {
    low = omega arith;
    high = high;
    forward = omega arith;
    line_low = omega arith;
    line_forward = omega arith;
    line_bound = omega arith;
    line_behind_bound = behind;
    sized = sized;
    same_tokens = rw (start, line);
    at_end = λ f. absurd (no_end f);
    at_fault = λ f. absurd (no-fault f);
    some_byte = λ f g. omega arith;
    first = λ f g. e ∙ rw (start, line);
  }

-- ---- Signs and keywords

mark_sized : (t : List ℕ) (k p l e : ℕ) → 7 ≤ k → Sized t (plain_token k p l e)
mark_sized t k p l e h = nameless t (plain_token k p l e) (rw (ne_eqb k 0 (omega arith), ne_eqb k 2 (omega arith), ne_eqb k 3 (omega arith), ne_eqb k 4 (omega arith))) refl

mark_meant : (t : List ℕ) (k p l e : ℕ) → 7 ≤ k → token_in t (plain_token k p l e) ≡ mark k
unfolding token_in
mark_meant t k p l e h = rw (ne_eqb k 0 (omega arith), ne_eqb k 1 (omega arith), ne_eqb k 2 (omega arith), ne_eqb k 3 (omega arith), ne_eqb k 4 (omega arith))

module _ (t : List ℕ) (p l : ℕ) (o : Bool) (bound : l ≤ p) where
  pub found_mark : (k e : ℕ) → 7 ≤ k → p < e → e ≤ length t → Gives t p l o (mark k) e l → Found t p l o (plain_token k p l e)
  found_mark k e h more high f =
      found_token t p l o bound (plain_token k p l e) refl refl more high (omega arith) (omega arith) (λ g. omega arith) (λ g. omega arith) (mark_sized t k p l e h) (f ∙ rw (mark_meant t k p l e h))

  -- ---- Names

  pub found_word : (e : ℕ) → Named t p e → e ≤ length t → Gives t p l o (word (slice p e t)) e l → Found t p l o (plain_token a_word p l e)
  unfolding token_in
  found_word e n high f =
      found_token t p l o bound (plain_token a_word p l e) refl refl n.some_byte high (omega arith) (omega (arith, n.some_byte)) (λ g. omega arith) (λ g. omega arith)
      record {
        word_size = λ g. n;
        variable_size = λ g. absurd (omega arith);
        top_size = λ g i. absurd (omega arith);
        class_size = λ g i. absurd (omega arith);
        no_class = λ g. refl;
        text_size = λ g. absurd (omega arith);
        text_spelled = λ g. absurd (omega arith);
      }
      f

  pub found_variable : (e : ℕ) → Named t (p + 1) e → e ≤ length t → Gives t p l o (variable (slice (p + 1) e t)) e l → Found t p l o (plain_token a_variable p l e)
  unfolding token_in
  found_variable e n high f =
      found_token t p l o bound (plain_token a_variable p l e) refl refl (omega (arith, n.some_byte)) high (omega arith) (omega (arith, n.some_byte)) (λ g. omega arith) (λ g. omega arith)
      record {
        word_size = λ g. absurd (omega arith);
        variable_size = λ g. n;
        top_size = λ g i. absurd (omega arith);
        class_size = λ g i. absurd (omega arith);
        no_class = λ g. refl;
        text_size = λ g. absurd (omega arith);
        text_spelled = λ g. absurd (omega arith);
      }
      f

  pub found_top : (e : ℕ) → Named t (p + 3) e → e ≤ length t → Gives t p l o (top_variable (slice (p + 3) e t)) e l → Found t p l o (plain_token a_qualified p l e)
  unfolding token_in
  found_top e n high f =
      found_token t p l o bound (plain_token a_qualified p l e) refl refl (omega (arith, n.some_byte)) high (omega arith) (omega (arith, n.some_byte)) (λ g. omega arith) (λ g. omega arith)
      record {
        word_size = λ g. absurd (omega arith);
        variable_size = λ g. absurd (omega arith);
        top_size = λ g i. n;
        class_size = λ g i. absurd (i refl);
        no_class = λ g. refl;
        text_size = λ g. absurd (omega arith);
        text_spelled = λ g. absurd (omega arith);
      }
      f
