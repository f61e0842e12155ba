-- One law for each way through the functions that test a name.
use Prim.Native.Nat.{ℕ, zero, suc, ◌+◌, ◌*◌, ◌-◌, ◌≤◌, ◌<◌}
use mathlib.Core.Path.{◌≡◌, refl, sym, ap, ◌∙◌}
use mathlib.Core.Bool.{Bool, true, false, ◌&&◌}
use mathlib.Core.List.{List, [], ◌∷◌}
use native.Mathlib.Omega.{arith}
use lib.ListN.{length, get_or, drop}
use lib.Seq.{drop-cons}
use Rattle.std.specs.List.{list_all}
use Rattle.notation.specs.Lexing.{is_letter, in_word, find, keywords, keyword_in}
use Rattle.notation.specs.Printer.{all_in_word, no_keyword, is_name}
use Rattle.lexer.specs.Words.{little, keyword_numbers}
use Rattle.lexer.proofs.WordNumbers.{keyword_by_number, long_no_keyword}

-- ---- All bytes in a word

pub all_words : (w : List ℕ) → list_all in_word w ≡ all_in_word w
unfolding all_in_word
all_words [] = refl
all_words (c ∷ cs) = ap (λ (b : Bool). in_word c && b) (all_words cs)

-- ---- The number of a word

-- one byte more in front
pub little_before : (w : List ℕ) (i : ℕ) → 0 < i → i ≤ length w → little (drop i w) * 256 + get_or w (i - 1) 0 ≡ little (drop (i - 1) w)
unfolding little
little_before w i positive low =
    let next : suc (i - 1) ≡ i = omega arith in
    let e : drop (i - 1) w ≡ get_or w (i - 1) 0 ∷ drop i w = drop-cons w (i - 1) 0 (omega arith) ∙ ap (λ (n : ℕ). get_or w (i - 1) 0 ∷ drop n w) next in
    rw e

-- ---- A name

-- an empty word is none
pub empty_no_name : (w : List ℕ) → length w ≡ 0 → false ≡ is_name w
unfolding is_name
empty_no_name [] h = refl
empty_no_name (c ∷ w) h = absurd (omega arith)

-- a name begins with a letter
pub letter_first : (w : List ℕ) {b : Bool} → b ≡ is_letter (get_or w 0 0) → b ≡ false → false ≡ is_name w
unfolding is_name
letter_first [] e h = refl
letter_first (c ∷ w) e h = rw (← e, h)

-- a letter is in a word, so the whole name is spelled as words are
name_from_lem : (w : List ℕ) {b k : Bool} → 0 < length w → is_letter (get_or w 0 0) ≡ true → b ≡ all_in_word w → k ≡ no_keyword (keyword_in keywords w) → is_name w ≡ (b && k)
unfolding is_name all_in_word
name_from_lem [] l h e f = absurd (omega arith)
name_from_lem (c ∷ w) l h e f = rw (e, f, h)

module _ (w : List ℕ) {b a : Bool} (some_byte : length w ≡ 0 → ⊥) (eb : b ≡ is_letter (get_or w 0 0)) (letter : b ≡ true) (ea : a ≡ all_in_word w) where
  by_tests : is_name w ≡ (a && no_keyword (keyword_in keywords w))
  by_tests = name_from_lem w (go (length w) refl) (sym eb ∙ letter) ea refl
    where
      go : (n : ℕ) → length w ≡ n → 0 < length w
      go zero e = absurd (some_byte e)
      go (suc n) e = omega arith

  pub no_word : a ≡ false → false ≡ is_name w
  no_word h = sym (by_tests ∙ rw h)

  pub long_name : a ≡ true → 8 < length w → true ≡ is_name w
  unfolding no_keyword
  long_name h l = sym (by_tests ∙ rw (h, long_no_keyword w l))

  pub short_name : {n : ℕ} {k : Bool} → a ≡ true → n ≡ little w → k ≡ no_keyword (find n keyword_numbers) → k ≡ is_name w
  short_name h en ek = ek ∙ sym (by_tests ∙ rw (h, keyword_by_number w (sym ea ∙ h), en))
