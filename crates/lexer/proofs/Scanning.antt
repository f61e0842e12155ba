-- Steps of the lexer over the bytes of a text, by their places.
use Prim.Native.Nat.{ℕ, zero, suc, ◌+◌, ◌≤◌, ◌<◌}
use mathlib.Core.Path.{◌≡◌, refl, sym, ◌∙◌, subst}
use mathlib.Core.Bool.{Bool, true, false, not, ◌||◌}
use mathlib.Core.List.{List, [], ◌∷◌, ◌++◌, append_assoc, append-nil}
use native.Mathlib.Omega.{arith}
use native.Mathlib.Numerals.{add-one}
use lib.ListN.{length, get_or, drop, drop_of_length-le}
use lib.Dec.{eqb}
use lib.Seq.{drop-cons, slice, slice_empty, slice-cons}
use borrow.Author.Tests.{eqb-true, eqb-false}
use Rattle.rules.specs.Bytes.{pick}
use Rattle.rules.proofs.Within.{false_not_true}
use Rattle.rules.proofs.Lists.{either_left, either_right}
use Rattle.notation.specs.Lexing.{is_space, in_word, Mode, between, comment, reads, begins, step_byte, finish, line_behind, lex}
use Rattle.notation.proofs.Lexing.{lex_step, Gathers}
use Rattle.lexer.specs.Scanned.{CommentPart, is_gap}
use Rattle.lexer.specs.Found.{lex_from, tokens_from}

-- ---- Tests

-- a byte that passes a test is none that does not
pub differs : (f : ℕ → Bool) (c d : ℕ) → f c ≡ true → f d ≡ false → eqb c d ≡ false
differs f c d h i = go (eqb c d) refl
  where
    go : (b : Bool) → eqb c d ≡ b → eqb c d ≡ false
    go true e = false_not_true (sym i ∙ subst (λ (x : ℕ). f x ≡ true) (eqb-true c d e) h)
    go false e = e

-- one index more
pub inside_more : (P : ℕ → Type 0) (at i : ℕ) → ((j : ℕ) → at ≤ j → j < i → P j) → P i → (j : ℕ) → at ≤ j → j < i + 1 → P j
inside_more P at i before now j low high = go (eqb j i) refl
  where
    go : (b : Bool) → eqb j i ≡ b → P j
    go true e = subst P (sym (eqb-true j i e)) now
    go false e = let other = eqb-false j i e in before j low (omega arith)

-- ---- Lines

pub line_bound : (c l : ℕ) → line_behind c l ≤ l + 1
line_bound c l = go (eqb c 0x0a)
  where
    go : (b : Bool) → pick b (suc l) l ≤ l + 1
    go true = omega arith
    go false = omega arith

pub line_rises : (c l : ℕ) → l ≤ line_behind c l
line_rises c l = go (eqb c 0x0a)
  where
    go : (b : Bool) → l ≤ pick b (suc l) l
    go true = omega arith
    go false = omega arith

-- ---- One byte

-- behind the last byte the lexer finishes
pub at_the_end : (t : List ℕ) (i : ℕ) (m : Mode) (l : ℕ) → length t ≤ i → lex_from t i l m ≡ finish m i l
unfolding lex
at_the_end t i m l h = rw (drop_of_length-le t h)

-- a byte that ends nothing
pub stepped : (t : List ℕ) (i : ℕ) (m n : Mode) (l : ℕ) → i < length t → step_byte m i l (get_or t i 0) ≡ reads [] n → lex_from t i l m ≡ lex_from t (i + 1) (line_behind (get_or t i 0) l) n
stepped t i m n l h e = rw (add-one, drop-cons t i 0 h) (lex_step (get_or t i 0) (drop (suc i) t) m i l [] n e)

-- the same for a byte other than a line feed
pub stepped_on : (t : List ℕ) (i : ℕ) (m n : Mode) (l : ℕ) → i < length t → step_byte m i l (get_or t i 0) ≡ reads [] n → eqb (get_or t i 0) 0x0a ≡ false → lex_from t i l m ≡ lex_from t (i + 1) l n
stepped_on t i m n l h e f = stepped t i m n l h e ∙ rw f

pub stepped_to : (t : List ℕ) (i j : ℕ) (m n : Mode) (l : ℕ) → i + 1 ≡ j → i < length t → step_byte m i l (get_or t i 0) ≡ reads [] n → eqb (get_or t i 0) 0x0a ≡ false → lex_from t i l m ≡ lex_from t j l n
stepped_to t i j m n l next h e f = stepped_on t i m n l h e f ∙ rw next

-- ---- White space and comments

-- white space is passed
pub space_passed : (t : List ℕ) (at : ℕ) (o : Bool) (line : ℕ) → at < length t → is_space (get_or t at 0) ≡ true → tokens_from t at line o ≡ tokens_from t (at + 1) (line_behind (get_or t at 0) line) o
unfolding step_byte begins
space_passed t at o line h s = stepped t at (between o) (between o) line h (rw (begins, s))

-- # begins a comment
pub comment_begun : (t : List ℕ) (at : ℕ) (o : Bool) (line : ℕ) → at < length t → get_or t at 0 ≡ 0x23 → tokens_from t at line o ≡ lex_from t (at + 1) line (comment o)
unfolding step_byte begins
comment_begun t at o line h e = stepped_on t at (between o) (comment o) line h (rw e) (rw e)

-- a byte of a comment
pub comment_passed : (t : List ℕ) (at : ℕ) (o : Bool) (line : ℕ) → at < length t → eqb (get_or t at 0) 0x0a ≡ false → lex_from t at line (comment o) ≡ lex_from t (at + 1) line (comment o)
unfolding step_byte
comment_passed t at o line h e = stepped_on t at (comment o) (comment o) line h (rw e) e

-- some bytes of one, and then more
pub comment_on : {t : List ℕ} {p q r : ℕ} → CommentPart t p q → CommentPart t q r → CommentPart t p r
comment_on x y = record { low = omega (arith, x.low, y.low); high = y.high; goes_on = λ o line. x.goes_on o line ∙ y.goes_on o line }

-- four bytes of one
pub four_passed : (t : List ℕ) (at : ℕ) → at + 4 ≤ length t → not ((eqb (get_or t at 0) 10 || eqb (get_or t (at + 1) 0) 10) || (eqb (get_or t (at + 2) 0) 10 || eqb (get_or t (at + 3) 0) 10)) ≡ true → CommentPart t at (at + 4)
four_passed t at h e =
    let none : (first || last) ≡ false = not_so (first || last) e in
    let first_two : first ≡ false = either_left first last none in
    let last_two : last ≡ false = either_right first last none in
    comment_on
    (comment_on (one at (at + 1) refl (omega arith) (either_left (feed at) (feed (at + 1)) first_two)) (one (at + 1) (at + 2) (omega arith) (omega arith) (either_right (feed at) (feed (at + 1)) first_two)))
    (comment_on (one (at + 2) (at + 3) (omega arith) (omega arith) (either_left (feed (at + 2)) (feed (at + 3)) last_two)) (one (at + 3) (at + 4) (omega arith) (omega arith) (either_right (feed (at + 2)) (feed (at + 3)) last_two)))
  where
    feed : ℕ → Bool
    feed p = eqb (get_or t p 0) 10

    first : Bool
    first = feed at || feed (at + 1)

    last : Bool
    last = feed (at + 2) || feed (at + 3)

    not_so : (b : Bool) → not b ≡ true → b ≡ false
    not_so true i = absurd (false_not_true i)
    not_so false i = refl

    one : (p q : ℕ) → q ≡ p + 1 → p < length t → eqb (get_or t p 0) 10 ≡ false → CommentPart t p q
    one p q is i d = record { low = omega arith; high = omega arith; goes_on = λ o line. subst (λ (n : ℕ). lex_from t p line (comment o) ≡ lex_from t n line (comment o)) (sym is) (comment_passed t p o line i d) }

-- a line feed ends a comment, as it would be passed without one
pub comment_ended : (t : List ℕ) (at : ℕ) (o : Bool) (line : ℕ) → at < length t → get_or t at 0 ≡ 0x0a → lex_from t at line (comment o) ≡ tokens_from t at line o
unfolding step_byte begins
comment_ended t at o line h e = stepped t at (comment o) (between o) line h (rw e) ∙ sym (stepped t at (between o) (between o) line h (rw e))

-- so does the end of the text
pub comment_finished : (t : List ℕ) (at : ℕ) (o : Bool) (line : ℕ) → length t ≤ at → lex_from t at line (comment o) ≡ tokens_from t at line o
unfolding finish
comment_finished t at o line h = at_the_end t at (comment o) line h ∙ sym (at_the_end t at (between o) line h)

-- a byte of a gap that begins no comment is white space
pub gap_no_comment : (c : ℕ) → is_gap c ≡ true → eqb c 0x23 ≡ false → is_space c ≡ true
gap_no_comment c h e = go (is_space c) refl h
  where
    go : (b : Bool) → is_space c ≡ b → (b || eqb c 0x23) ≡ true → is_space c ≡ true
    go true i h = i
    go false i h = false_not_true (sym e ∙ h)

-- ---- Words

pub word_no_feed : (c : ℕ) → in_word c ≡ true → eqb c 0x0a ≡ false
word_no_feed c h = differs in_word c 0x0a h refl

-- the bytes of a run of a word are gathered, by each mode that gathers them
pub run_gathered : (M : List ℕ → Mode) → Gathers M → (t : List ℕ) (r k at : ℕ) → at + k ≡ r → r ≤ length t → ((i : ℕ) → at ≤ i → i < r → in_word (get_or t i 0) ≡ true)
    → (v : List ℕ) (l : ℕ) → lex_from t at l (M v) ≡ lex_from t r l (M (v ++ slice at r t))
run_gathered M g t r zero at e h inside v l = let same : at ≡ r = omega arith in rw (same, slice_empty r t, append-nil)
run_gathered M g t r (suc k) at e h inside v l =
    let c = get_or t at 0 in
    let here : in_word c ≡ true = inside at (omega arith) (omega arith) in
    let from : slice at r t ≡ c ∷ slice (at + 1) r t = slice-cons at r t 0 (omega arith) h ∙ rw add-one in
    stepped_on t at (M v) (M (v ++ (c ∷ []))) l (omega arith) (g v c at l here) (word_no_feed c here)
    ∙ run_gathered M g t r k (at + 1) (omega arith) h (λ i low high. inside i (omega arith) high) (v ++ (c ∷ [])) l
    ∙ rw (from, append_assoc)
