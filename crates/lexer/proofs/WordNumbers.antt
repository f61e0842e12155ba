-- Words by their numbers, and which of them are keywords.
use Prim.Native.Nat.{ℕ, zero, suc, ◌+◌, ◌*◌, ◌-◌, ◌≤◌, ◌<◌}
use mathlib.Core.Path.{◌≡◌, refl, sym, ap, ◌∙◌}
use mathlib.Core.Bool.{Bool, true, false, ◌&&◌}
use mathlib.Core.List.{List, [], ◌∷◌}
use mathlib.Core.Option.{none, some}
use native.Mathlib.Omega.{arith}
use native.Mathlib.Numerals.{add-one}
use lib.Dec.{leb, eqb}
use lib.ListN.{length, get_or}
use lib.Seq.{slice, slice_empty, slice-cons}
use borrow.Author.Tests.{eqb-true, eqb-false, eq-eqb, ne_eqb, leb-true}
use Rattle.rules.specs.Bytes.{pick}
use Rattle.rules.specs.Compile.{same_bytes}
use Rattle.rules.proofs.Within.{false_not_true}
use Rattle.notation.specs.Lexing.{is_letter, is_digit, in_word, find, keywords, keyword_in}
use Rattle.notation.specs.Printer.{all_in_word}
use Rattle.notation.proofs.Lexing.{both_true}
use Rattle.lexer.specs.Words.{little, keyword_numbers}

-- ---- The bytes of a word

-- they are above 0 and below 256
pub word_byte : (c : ℕ) → in_word c ≡ true → (1 ≤ c) × (c < 256)
word_byte c h = go (is_letter c) (is_digit c) (eqb c 0x5f) refl refl refl h
  where
    range : (a b : ℕ) → 1 ≤ a → b < 256 → (leb a c && leb c b) ≡ true → (1 ≤ c) × (c < 256)
    range a b low high e =
        let i = both_true (leb a c) (leb c b) e in
        (omega (arith, leb-true a c i.0), omega (arith, leb-true c b i.1))

    go : (a b d : Bool) → is_letter c ≡ a → is_digit c ≡ b → eqb c 0x5f ≡ d → (in_word c) ≡ true → (1 ≤ c) × (c < 256)
    go true b d e f g i = range 0x61 0x7a (omega arith) (omega arith) e
    go false true d e f g i = range 0x30 0x39 (omega arith) (omega arith) f
    go false false true e f g i = let j = eqb-true c 0x5f g in (omega arith, omega arith)
    go false false false e f g i = false_not_true (rw (e, f, g) at i)

-- all bytes of a run are in a word
pub run_in_word : (t : List ℕ) (b k a : ℕ) → a + k ≡ b → b ≤ length t → ((i : ℕ) → a ≤ i → i < b → in_word (get_or t i 0) ≡ true) → all_in_word (slice a b t) ≡ true
unfolding all_in_word
run_in_word t b zero a e h inside = let same : a ≡ b = omega arith in rw (same, slice_empty b t)
run_in_word t b (suc k) a e h inside =
    let here : in_word (get_or t a 0) ≡ true = inside a (omega arith) (omega arith) in
    let further = run_in_word t b k (a + 1) (omega arith) h (λ i low high. inside i (omega arith) high) in
    rw (slice-cons a b t 0 (omega arith) h, here) (rw (add-one a) at further)

-- ---- Numbers of words

-- one byte more in front
pub little_more : (t : List ℕ) (i end : ℕ) → 0 < i → i ≤ end → end ≤ length t → little (slice i end t) * 256 + get_or t (i - 1) 0 ≡ little (slice (i - 1) end t)
unfolding little
little_more t i end positive low high =
    let next : suc (i - 1) ≡ i = omega arith in
    let e : slice (i - 1) end t ≡ get_or t (i - 1) 0 ∷ slice i end t = slice-cons (i - 1) end t 0 (omega arith) high ∙ ap (λ (n : ℕ). get_or t (i - 1) 0 ∷ slice n end t) next in
    rw e

-- two words are the same where their numbers are
pub same_by_number : (w v : List ℕ) → all_in_word w ≡ true → all_in_word v ≡ true → same_bytes w v ≡ eqb (little w) (little v)
unfolding same_bytes little all_in_word
same_by_number [] [] h i = refl
same_by_number [] (d ∷ v) h i =
    let b = word_byte d (both_true (in_word d) (all_in_word v) i).0 in
    sym (ne_eqb 0 (little v * 256 + d) (λ e. omega (arith, b.0)))
same_by_number (c ∷ w) [] h i =
    let b = word_byte c (both_true (in_word c) (all_in_word w) h).0 in
    sym (ne_eqb (little w * 256 + c) 0 (λ e. omega (arith, b.0)))
same_by_number (c ∷ w) (d ∷ v) h i =
    let a = both_true (in_word c) (all_in_word w) h in
    let b = both_true (in_word d) (all_in_word v) i in
    go (eqb c d) refl (eqb (little w) (little v)) refl (same_by_number w v a.1 b.1) (word_byte c a.0).1 (word_byte d b.0).1
  where
    go : (x : Bool) → eqb c d ≡ x → (y : Bool) → eqb (little w) (little v) ≡ y → same_bytes w v ≡ eqb (little w) (little v) → c < 256 → d < 256 → (eqb c d && same_bytes w v) ≡ eqb (little w * 256 + c) (little v * 256 + d)
    go true e true f j low high =
        let x = eqb-true c d e in
        let y = eqb-true (little w) (little v) f in
        rw (e, j, f) (sym (eq-eqb (little w * 256 + c) (little v * 256 + d) (omega arith)))
    go true e false f j low high =
        let y = eqb-false (little w) (little v) f in
        rw (e, j, f) (sym (ne_eqb (little w * 256 + c) (little v * 256 + d) (λ z. y (omega arith))))
    go false e y f j low high =
        let x = eqb-false c d e in
        rw e (sym (ne_eqb (little w * 256 + c) (little v * 256 + d) (λ z. x (omega arith))))

-- ---- Keywords

-- a table of words, all spelled as words are, by their numbers
abbrev are_words : List (List ℕ × ℕ) → Bool
are_words [] = true
are_words (x ∷ xs) = all_in_word x.0 && are_words xs

abbrev numbers_of : List (List ℕ × ℕ) → List (ℕ × ℕ)
numbers_of [] = []
numbers_of (x ∷ xs) = (little x.0, x.1) ∷ numbers_of xs

by_number : (xs : List (List ℕ × ℕ)) (w : List ℕ) → all_in_word w ≡ true → are_words xs ≡ true → keyword_in xs w ≡ find (little w) (numbers_of xs)
unfolding keyword_in
by_number [] w h i = refl
by_number (x ∷ xs) w h i =
    let a = both_true (all_in_word x.0) (are_words xs) i in
    rw (same_by_number w x.0 h a.0, by_number xs w h a.1)

pub keyword_by_number : (w : List ℕ) → all_in_word w ≡ true → keyword_in keywords w ≡ find (little w) keyword_numbers
unfolding little all_in_word
keyword_by_number w h = by_number keywords w h refl

-- no word of another length is the same
lengths_same : (w v : List ℕ) → (length w ≡ length v → ⊥) → same_bytes w v ≡ false
unfolding same_bytes
lengths_same [] [] h = absurd (h refl)
lengths_same [] (d ∷ v) h = refl
lengths_same (c ∷ w) [] h = refl
lengths_same (c ∷ w) (d ∷ v) h = rw (lengths_same w v (λ e. h (omega arith))) (and_false (eqb c d))
  where
    and_false : (b : Bool) → (b && false) ≡ false
    and_false true = refl
    and_false false = refl

abbrev are_short : List (List ℕ × ℕ) → Bool
are_short [] = true
are_short (x ∷ xs) = leb (length x.0) 8 && are_short xs

none_long : (xs : List (List ℕ × ℕ)) (w : List ℕ) → 8 < length w → are_short xs ≡ true → keyword_in xs w ≡ none
unfolding keyword_in
none_long [] w h i = refl
none_long (x ∷ xs) w h i =
    let a = both_true (leb (length x.0) 8) (are_short xs) i in
    let short = leb-true (length x.0) 8 a.0 in
    rw (lengths_same w x.0 (λ e. omega arith), none_long xs w h a.1)

-- a word of more than 8 bytes is no keyword
pub long_no_keyword : (w : List ℕ) → 8 < length w → keyword_in keywords w ≡ none
long_no_keyword w h = none_long keywords w h refl

-- the kinds in a table are those of marks
abbrev are_marks : List (ℕ × ℕ) → Bool
are_marks [] = true
are_marks (x ∷ xs) = leb 7 x.1 && are_marks xs

pub kind_bound : (xs : List (ℕ × ℕ)) (n k : ℕ) → are_marks xs ≡ true → find n xs ≡ some k → 7 ≤ k
kind_bound [] n k h e = let z : ◌≡◌ {A = ℕ} 0 1 = cc in absurd (omega arith)
kind_bound (x ∷ xs) n k h e =
    let a = both_true (leb 7 x.1) (are_marks xs) h in
    go (λ f. kind_bound xs n k a.1 f) (leb-true 7 x.1 a.0) (eqb n x.0) e
  where
    go : (find n xs ≡ some k → 7 ≤ k) → 7 ≤ x.1 → (b : Bool) → pick b (some x.1) (find n xs) ≡ some k → 7 ≤ k
    go further low true f = let same : x.1 ≡ k = cc in omega arith
    go further low false f = further f

pub keyword_bound : (w : List ℕ) (k : ℕ) → all_in_word w ≡ true → keyword_in keywords w ≡ some k → 7 ≤ k
keyword_bound w k h e = kind_bound keyword_numbers (little w) k refl (sym (keyword_by_number w h) ∙ e)
