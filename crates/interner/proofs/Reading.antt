-- One law for each way through reading a string of the text.
use Prim.Native.Nat.{ℕ, zero, suc, ◌+◌, ◌<◌, ◌≤◌}
use mathlib.Core.Path.{◌≡◌, refl, sym, ap, ◌∙◌}
use mathlib.Core.Bool.{Bool, true, false}
use mathlib.Core.List.{List, [], ◌∷◌}
use native.Mathlib.Omega.{arith}
use native.Mathlib.Numerals.{add-one}
use lib.ListN.{length, get_or, drop, drop_of_length-le, get_or-eq_default}
use lib.Seq.{drop-cons}
use borrow.Author.Tests.{ne_eqb, eq-eqb}
use Rattle.rules.proofs.Within.{false_not_true}
use Rattle.lexer.proofs.Scanning.{differs}
use Rattle.notation.specs.Lexing.{is_quote, in_word}
use Rattle.notation.specs.Quoted.{escape_of, unquoted, unescaped, word_from, string_from}
use Rattle.interner.specs.Strings.{rest_of, from_code, Stepped}

-- the byte n has the code n + 1
from_code_lem : (code n : ℕ) (rest : List ℕ) → code ≡ n + 1 → from_code code rest ≡ n ∷ rest
unfolding from_code
from_code_lem code n rest e = rw (e, add-one, from_code)

module _ (t : List ℕ) (q p : ℕ) where
  -- the string ends at p
  ended : rest_of t q p ≡ [] → Stepped t q p 0 p
  unfolding from_code
  ended e = record { string = e; onward = λ h. omega arith; within = λ h. omega arith; small = omega arith }

  -- the string goes on with the byte n
  went_on : (n : ℕ) {code behind : ℕ} → rest_of t q p ≡ n ∷ rest_of t q behind → code ≡ n + 1 → code ≤ 256 → p < behind → behind ≤ length t → Stepped t q p code behind
  went_on n {code} {behind} e is s l w = record { string = e ∙ sym (from_code_lem code n (rest_of t q behind) is); onward = λ h. l; within = λ h. w; small = s }

-- ---- A word

module _ (t : List ℕ) (p : ℕ) where
  pub word_past : length t ≤ p → Stepped t 0 p 0 p
  unfolding rest_of word_from
  word_past l = ended t 0 p (rw (drop_of_length-le t l))

  pub word_over : p < length t → false ≡ in_word (get_or t p 0) → Stepped t 0 p 0 p
  unfolding rest_of word_from
  word_over l e = ended t 0 p (rw (drop-cons t p 0 l, ← e))

  -- its next byte, and what follows
  pub word_letter : p < length t → true ≡ in_word (get_or t p 0) → rest_of t 0 p ≡ get_or t p 0 ∷ rest_of t 0 (p + 1)
  unfolding rest_of word_from
  word_letter l e = rw (add-one, drop-cons t p 0 l, ← e)

  pub word_goes_on : {code behind : ℕ} → p < length t → true ≡ in_word (get_or t p 0) → code ≡ get_or t p 0 + 1 → code ≤ 256 → behind ≡ p + 1 → Stepped t 0 p code behind
  word_goes_on l e is s b = rw b (went_on t 0 p (get_or t p 0) (word_letter l e) is s (omega arith) (omega arith))

-- ---- A string in quotes

module _ (t : List ℕ) (q p : ℕ) (quoted : 0 < q) where
  -- what is left of it, the quote being known
  in_quotes : (p : ℕ) → rest_of t q p ≡ unquoted (drop p t) q
  unfolding rest_of
  in_quotes p = rw (ne_eqb q 0 (λ e. omega arith))

  pub text_past : length t ≤ p → Stepped t q p 0 p
  unfolding unquoted
  text_past l = ended t q p (in_quotes p ∙ rw (drop_of_length-le t l))

  pub closed : p < length t → get_or t p 0 ≡ q → Stepped t q p 0 p
  unfolding unquoted
  closed l e = ended t q p (in_quotes p ∙ rw (drop-cons t p 0 l, eq-eqb _ _ e))

  pub text_goes_on : {code behind : ℕ} → p < length t → (get_or t p 0 ≡ q → ⊥) → (get_or t p 0 ≡ 0x5c → ⊥) → code ≡ get_or t p 0 + 1 → code ≤ 256 → behind ≡ p + 1 → Stepped t q p code behind
  unfolding unquoted
  text_goes_on l e f is s b = rw b (went_on t q p (get_or t p 0) (in_quotes p ∙ rw (in_quotes (p + 1), add-one, drop-cons t p 0 l, ne_eqb _ _ e, ne_eqb _ _ f)) is s (omega arith) (omega arith))

  -- behind a backslash
  escaping : p < length t → (get_or t p 0 ≡ q → ⊥) → get_or t p 0 ≡ 0x5c → rest_of t q p ≡ unescaped (drop (p + 1) t) q
  unfolding unquoted
  escaping l e f = in_quotes p ∙ rw (add-one, drop-cons t p 0 l, ne_eqb _ _ e, eq-eqb _ _ f)

  pub cut_off : p < length t → (get_or t p 0 ≡ q → ⊥) → get_or t p 0 ≡ 0x5c → length t ≤ p + 1 → Stepped t q p 0 p
  unfolding unescaped
  cut_off l e f past = ended t q p (escaping l e f ∙ rw (drop_of_length-le t past))

  pub escaped : {n code behind : ℕ} → p < length t → (get_or t p 0 ≡ q → ⊥) → get_or t p 0 ≡ 0x5c → p + 1 < length t → n ≡ escape_of (get_or t (p + 1) 0) → code ≡ n + 1 → code ≤ 256 → behind ≡ p + 1 + 1 → Stepped t q p code behind
  unfolding unescaped
  escaped {n} l e f more n-is is s b =
      rw b (went_on t q p n (escaping l e f ∙ rw (in_quotes (p + 1 + 1), add-one (p + 1), drop-cons t (p + 1) 0 more, n-is)) is s (omega arith) (omega arith))

-- ---- A letter, in quotes or not

pub letter_on : (t : List ℕ) (q p : ℕ) → in_word q ≡ false → p < length t → in_word (get_or t p 0) ≡ true → rest_of t q p ≡ get_or t p 0 ∷ rest_of t q (p + 1)
unfolding unquoted
letter_on t zero p plain l e = word_letter t p l (sym e)
letter_on t (suc q) p plain l e =
    let quoted : 0 < suc q = omega arith in
    let no_quote : get_or t p 0 ≡ suc q → ⊥ = λ i. false_not_true (sym plain ∙ ap in_word (sym i) ∙ e) in
    let no_backslash : get_or t p 0 ≡ 0x5c → ⊥ = λ i. false_not_true (ap in_word (sym i) ∙ e) in
    in_quotes t (suc q) p quoted p ∙ rw (in_quotes t (suc q) p quoted (p + 1), add-one, drop-cons t p 0 l, ne_eqb _ _ no_quote, ne_eqb _ _ no_backslash)

-- ---- Where a string begins

-- a quote is no letter
pub quote_no_letter : (c : ℕ) → true ≡ is_quote c → in_word c ≡ false
unfolding is_quote
quote_no_letter c q = go (in_word c) refl
  where
    go : (b : Bool) → in_word c ≡ b → in_word c ≡ false
    go true e = absurd (false_not_true (sym (rw (differs in_word c 0x27 e refl, differs in_word c 0x22 e refl) at q)))
    go false e = e

-- a quote is not 0
quote_above : (c : ℕ) → true ≡ is_quote c → 0 < c
unfolding is_quote
quote_above zero e = false_not_true (sym e)
quote_above (suc c) e = omega arith

module _ (t : List ℕ) (p : ℕ) where
  pub begins_word : false ≡ is_quote (get_or t p 0) → rest_of t 0 p ≡ string_from t p
  unfolding rest_of string_from
  begins_word e = rw (← e)

  pub begins_past : length t ≤ p → rest_of t 0 p ≡ string_from t p
  unfolding is_quote
  begins_past l = begins_word (rw (get_or-eq_default t 0 l))

  pub begins_quoted : true ≡ is_quote (get_or t p 0) → rest_of t (get_or t p 0) (p + 1) ≡ string_from t p
  unfolding string_from
  begins_quoted e = in_quotes t (get_or t p 0) p (quote_above (get_or t p 0) e) (p + 1) ∙ rw (← e)
