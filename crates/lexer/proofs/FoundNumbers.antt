-- Numbers as they are found.
use Prim.Native.Nat.{ℕ, zero, suc, ◌+◌, ◌*◌, ◌-◌, ◌≤◌, ◌<◌}
use mathlib.Core.Path.{◌≡◌, refl, ap, ◌∙◌}
use mathlib.Core.Bool.{Bool, true, false, ◌&&◌, ◌||◌}
use mathlib.Core.List.{List, [], ◌∷◌}
use native.Mathlib.Omega.{arith}
use lib.Dec.{leb, ltb, eqb}
use lib.IntN.{ℤ, pos, negsuc, ◌-ℤ◌}
use lib.ListN.{length, get_or, drop}
use borrow.Author.Tests.{ne_eqb, leb-true, leb-false, le-leb, lt-leb, ltb-true, lt-ltb}
use mir.Facts.{to_z-of_z, to_z_pos}
use mir.Syntax.{w64}
use mir.Val.{SFits, to_z, of_z}
use Rattle.notation.specs.Tokens.{number, mark, kind, a_number, malformed, operand_behind, lexeme}
use Rattle.notation.specs.Lexing.{is_letter, is_digit, in_word, signed_token, in_number, Mode, reads, begins, step_byte, finish, line_behind, lex}
use Rattle.notation.proofs.Lexing.{both_true, lex_step, no_feed}
use Rattle.lexer.specs.declared.Token as found
use Rattle.lexer.specs.declared.Digits.{Digits}
use Rattle.lexer.specs.Numbers.{more_digits, DigitsRun, word_at, largest_of, signed_of, DigitRead}
use Rattle.lexer.specs.Found.{lex_from, tokens_from, plain_token, token_in, Begins, Found}
use Rattle.lexer.proofs.Scanning.{stepped_on}
use Rattle.lexer.proofs.Ends.{resumed_at, token_ends, begins_behind, begins_token, broken_here}
use Rattle.lexer.proofs.FoundTokens.{nameless, found_token, found_fault}

-- ---- Digits

pub digit_range : (c : ℕ) → is_digit c ≡ true → (0x30 ≤ c) × (c ≤ 0x39)
digit_range c h =
    let a = both_true (leb 0x30 c) (leb c 0x39) h in
    (leb-true 0x30 c a.0, leb-true c 0x39 a.1)

-- what is in no word is no digit
no_word_no_digit : (c : ℕ) → in_word c ≡ false → is_digit c ≡ false
no_word_no_digit c h = go (is_letter c) (is_digit c) refl h
  where
    go : (a b : Bool) → is_digit c ≡ b → (a || (b || eqb c 0x5f)) ≡ false → b ≡ false
    go a false e i = refl
    go true true e i = i
    go false true e i = i

-- a digit begins a number
pub digit_begins : (o : Bool) (c p l : ℕ) → is_digit c ≡ true → begins o p l c ≡ reads [] (in_number p l false (c - 0x30))
unfolding begins
digit_begins o c p l h =
    let range = digit_range c h in
    rw (ne_eqb c 0x20 (omega arith), ne_eqb c 0x09 (omega arith), ne_eqb c 0x0d (omega arith), ne_eqb c 0x0a (omega arith), ne_eqb c 0x23 (omega arith), lt-leb 0x61 c (omega arith), ne_eqb c 0x24 (omega arith), h)

-- one more digit
digit_taken : (q m : ℕ) (s : Bool) (n c p l : ℕ) → 1 ≤ n → is_digit c ≡ true → step_byte (in_number q m s n) p l c ≡ reads [] (in_number q m s (n * 10 + (c - 0x30)))
unfolding step_byte
digit_taken q m s zero c p l h i = absurd (omega arith)
digit_taken q m s (suc n) c p l h i = rw i

pub more_parts : (c n : ℕ) → more_digits c n ≡ true → (is_digit c ≡ true) × (1 ≤ n) × (n ≤ 922337203685477580)
more_parts c n h =
    let a = both_true (is_digit c) (leb 1 n && leb n 922337203685477580) h in
    let b = both_true (leb 1 n) (leb n 922337203685477580) a.1 in
    (a.0, leb-true 1 n b.0, leb-true n 922337203685477580 b.1)

pub digit_read : (t : List ℕ) (i n p l : ℕ) (s : Bool) → i < length t → more_digits (get_or t i 0) n ≡ true → lex_from t i l (in_number p l s n) ≡ lex_from t (i + 1) l (in_number p l s (n * 10 + (get_or t i 0 - 0x30)))
digit_read t i n p l s h more =
    let parts = more_parts (get_or t i 0) n more in
    stepped_on t i (in_number p l s n) (in_number p l s (n * 10 + (get_or t i 0 - 0x30))) l h (digit_taken p l s n (get_or t i 0) i l parts.1 parts.0) (no_feed (get_or t i 0) (digit_range (get_or t i 0) parts.0).0)

-- ---- Numbers that are malformed

-- the token of a number that is too large
large_token : (s : Bool) (n : ℕ) → largest_of s < n → signed_token s n ≡ mark malformed
unfolding signed_token
large_token false n h = rw (lt-leb n 9223372036854775807 h)
large_token true zero h = absurd (omega arith)
large_token true (suc n) h = rw (lt-leb n 9223372036854775807 (omega arith))

-- whatever follows it
too_large : (cs : List ℕ) (p l : ℕ) (s : Bool) (n i k : ℕ) → 9223372036854775808 < n → Begins (lexeme p l (mark malformed)) (lex cs (in_number p l s n) i k)
unfolding lex finish step_byte
too_large [] p l s n i k h = begins_token refl (large_token s n (past s))
  where
    past : (s : Bool) → largest_of s < n
    past true = h
    past false = omega arith
too_large (c ∷ cs) p l s zero i k h = absurd (omega arith)
too_large (c ∷ cs) p l s (suc n) i k h = go (is_digit c) (in_word c) refl refl (λ m j. too_large cs p l s m (suc i) (line_behind c k) j)
  where
    past : (s : Bool) → largest_of s < suc n
    past true = h
    past false = omega arith

    Goal : Type 0
    Goal = Begins (lexeme p l (mark malformed)) (lex (c ∷ cs) (in_number p l s (suc n)) i k)

    go : (a b : Bool) → is_digit c ≡ a → in_word c ≡ b → ((m : ℕ) → 9223372036854775808 < m → Begins (lexeme p l (mark malformed)) (lex cs (in_number p l s m) (suc i) (line_behind c k))) → Goal
    go true b e f further =
        begins_behind (lex_step c cs (in_number p l s (suc n)) i k [] (in_number p l s (suc n * 10 + (c - 0x30))) (rw e)) (further (suc n * 10 + (c - 0x30)) (omega arith))
    go false true e f further =
        record { rest = lex cs Mode.broken (suc i) (line_behind c k); begins = lex_step c cs (in_number p l s (suc n)) i k (lexeme p l (mark malformed) ∷ []) Mode.broken (rw (f, e)) }
    go false false e f further = begins_token (resumed_at c cs (in_number p l s (suc n)) i k (lexeme p l (signed_token s (suc n))) (operand_behind (kind (signed_token s (suc n)))) (rw (f, e))) (large_token s (suc n) (past s))

-- a byte of a word behind the number
number_broken : (t : List ℕ) (e p l : ℕ) (s : Bool) (n : ℕ) → e < length t → in_word (get_or t e 0) ≡ true → more_digits (get_or t e 0) n ≡ false → Begins (lexeme p l (mark malformed)) (lex_from t e l (in_number p l s n))
unfolding step_byte
number_broken t e p l s zero h w more = broken_here t e (in_number p l s zero) l p l h (rw w)
number_broken t e p l s (suc n) h w more = go (is_digit (get_or t e 0)) refl more
  where
    Goal : Type 0
    Goal = Begins (lexeme p l (mark malformed)) (lex_from t e l (in_number p l s (suc n)))

    large : (leb 1 (suc n) && leb (suc n) 922337203685477580) ≡ false → 922337203685477580 < suc n
    large i = leb-false (suc n) 922337203685477580 (rw (le-leb 1 (suc n) (omega arith)) at i)

    go : (b : Bool) → is_digit (get_or t e 0) ≡ b → (b && (leb 1 (suc n) && leb (suc n) 922337203685477580)) ≡ false → Goal
    go true d i =
        let past = large i in
        begins_behind (stepped_on t e (in_number p l s (suc n)) (in_number p l s (suc n * 10 + (get_or t e 0 - 0x30))) l h (rw d) (no_feed (get_or t e 0) (digit_range (get_or t e 0) d).0))
        (too_large (drop (e + 1) t) p l s (suc n * 10 + (get_or t e 0 - 0x30)) (e + 1) l (omega arith))
    go false d i = broken_here t e (in_number p l s (suc n)) l p l h (rw (w, d))

-- ---- Whole numbers

-- what is in no word ends the number
number_ends : (t : List ℕ) (e p l : ℕ) (s : Bool) (n : ℕ) → (e < length t → in_word (get_or t e 0) ≡ false) → lex_from t e l (in_number p l s n) ≡ lexeme p l (signed_token s n) ∷ tokens_from t e l (operand_behind (kind (signed_token s n)))
unfolding step_byte finish
number_ends t e p l s zero f = token_ends t e (in_number p l s zero) l (lexeme p l (signed_token s zero)) (operand_behind (kind (signed_token s zero))) (λ j. rw (f j)) refl
number_ends t e p l s (suc n) f =
    token_ends t e (in_number p l s (suc n)) l (lexeme p l (signed_token s (suc n))) (operand_behind (kind (signed_token s (suc n)))) (λ j. rw (f j, no_word_no_digit (get_or t e 0) (f j))) refl

-- the number of a token that is not too large
number_meant : (s : Bool) (n : ℕ) → n ≤ largest_of s → signed_token s n ≡ number (signed_of s n)
unfolding signed_token signed_of
number_meant false n h = rw (le-leb n 9223372036854775807 h)
number_meant true zero h = refl
number_meant true (suc n) h = rw (le-leb n 9223372036854775807 (omega arith))

-- by what the code tests
no_word_at : (t : List ℕ) (e : ℕ) → word_at t e ≡ false → e < length t → in_word (get_or t e 0) ≡ false
no_word_at t e h j = rw (lt-ltb e (length t) j) at h

-- the token that the code gives
abbrev pub number_token : (p l e : ℕ) → ℤ → found.Token
number_token p l e z = record { kind = a_number; start = p; line = l; end = e; line_behind = l; class_end = 0; value = z }

-- the first digit at `from`, and the others as read
module _ (t : List ℕ) (p l : ℕ) (o : Bool) (from : ℕ) (s : Bool) (bound : l ≤ p) (low : p ≤ from) (begun : DigitRead t p l o from s) (r : Digits) (run : DigitsRun t (from + 1) (get_or t from 0 - 0x30) r) where
  number_read : tokens_from t p l o ≡ lex_from t r.end l (in_number p l s r.value)
  number_read = begun.same_tokens ∙ run.same_tokens p l s

  inside : p ≤ length t
  inside = omega (arith, run.low, run.high)

  pub number_faulty : word_at t r.end ≡ true → Found t p l o (plain_token malformed p l p)
  number_faulty h =
      let a = both_true (ltb r.end (length t)) (in_word (get_or t r.end 0)) h in
      let high = ltb-true r.end (length t) a.0 in
      found_fault t p l o bound inside (begins_behind number_read (number_broken t r.end p l s r.value high a.1 (run.stops high)))

  pub number_large : word_at t r.end ≡ false → largest_of s < r.value → Found t p l o (plain_token malformed p l p)
  number_large h j =
      found_fault t p l o bound inside (begins_token (number_read ∙ number_ends t r.end p l s r.value (no_word_at t r.end h)) (large_token s r.value j))

  pub number_found : word_at t r.end ≡ false → r.value ≤ largest_of s → Found t p l o (number_token p l r.end (signed_of s r.value))
  unfolding token_in
  number_found h j =
      found_token t p l o bound (number_token p l r.end (signed_of s r.value)) refl refl (omega (arith, run.low)) run.high (omega arith) (omega (arith, run.low)) (λ g. omega arith) (λ g. omega arith)
      (nameless t (number_token p l r.end (signed_of s r.value)) refl refl)
      (rw (number_meant s r.value j) at (number_read ∙ number_ends t r.end p l s r.value (no_word_at t r.end h)))

-- ---- Signed numbers in the code

-- −1 − n
minus_one : (n : ℕ) → negsuc 0 -ℤ pos n ≡ negsuc n
minus_one zero = refl
minus_one (suc n) = ap negsuc (omega arith)

pub minus_word : (n : ℕ) → n < 9223372036854775808 → negsuc 0 -ℤ to_z w64 n ≡ negsuc n
minus_word n h = ap (λ (z : ℤ). negsuc 0 -ℤ z) (to_z_pos w64 h) ∙ minus_one n

pub minus_bits : (n : ℕ) → n < 9223372036854775808 → to_z w64 (of_z w64 (negsuc 0 -ℤ to_z w64 n)) ≡ negsuc n
minus_bits n h =
    let fits : SFits w64 (negsuc n) = record { sfits = omega arith } in
    ap (λ (z : ℤ). to_z w64 (of_z w64 z)) (minus_word n h) ∙ to_z-of_z fits

pub negative_number : (n : ℕ) → 0 < n → signed_of true n ≡ negsuc (n - 1)
unfolding signed_of
negative_number zero h = absurd (omega arith)
negative_number (suc n) h = ap negsuc (omega arith)
