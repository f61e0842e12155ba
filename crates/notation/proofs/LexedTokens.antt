-- Each token of a text is good: its strings are byte strings of at most 255 bytes, its names are spelled as names, and no mark has the kind of another token.
use Prim.Native.Nat.{ℕ, zero, suc, ◌<◌, ◌≤◌}
use mathlib.Core.Path.{◌≡◌, refl, subst}
use mathlib.Core.Bool.{Bool, true, false, ◌&&◌, ◌||◌}
use mathlib.Core.List.{List, [], ◌∷◌, ◌++◌}
use mathlib.Core.Option.{Option, none, some}
use native.Mathlib.Omega.{arith}
use lib.Dec.{leb, eqb}
use lib.IntN.{ℤ, pos, negsuc}
use lib.ListN.{length}
use borrow.Author.Tests.{leb-true, eqb-true}
use Rattle.rules.specs.Bytes.{pick}
use Rattle.rules.specs.Compile.{same_bytes}
use Rattle.rules.specs.EditRule.{IsBytes}
use Rattle.rules.proofs.Lists.{both_left, both_right, both_true}
use Rattle.notation.specs.Tokens.{Token, number, text, mark}
use Rattle.notation.specs.Lexing.{is_letter, is_digit, in_word, keywords, keyword_in, word_or, up_to255, word_token, if_no_keyword, name_token, signed_token, text_token}
use Rattle.notation.specs.Printer.{all_in_word, no_keyword, is_name}
use Rattle.notation.proofs.Written.{ShortText}
use Rattle.notation.proofs.FormedNodes.{Word}
use Rattle.notation.proofs.FormedTokens.{Good, byte_before, no_bytes}
use Rattle.notation.proofs.NeedsKept.{none_not_some, same_result}

-- ---- Keywords

-- the kinds of keywords are not those of other tokens
abbrev marks_in : List (List ℕ × ℕ) → Bool
marks_in [] = true
marks_in (x ∷ xs) = leb 5 x.1 && marks_in xs

-- so a keyword's kind is one of a mark
keyword_kind : (xs : List (List ℕ × ℕ)) (w : List ℕ) (k : ℕ) → marks_in xs ≡ true → keyword_in xs w ≡ some k → 5 ≤ k
unfolding keyword_in
keyword_kind [] w k a e = none_not_some e
keyword_kind (x ∷ xs) w k a e = go (same_bytes w x.0) (λ e. keyword_kind xs w k (both_right (leb 5 x.1) (marks_in xs) a) e) e
  where
    go : (b : Bool) → (keyword_in xs w ≡ some k → 5 ≤ k) → ◌≡◌ {A = Option ℕ} (pick b (some x.1) (keyword_in xs w)) (some k) → 5 ≤ k
    go true others e = subst (λ (k : ℕ). 5 ≤ k) (same_result x.1 k e) (leb-true 5 x.1 (both_left (leb 5 x.1) (marks_in xs) a))
    go false others e = others e

-- ---- Words

-- a word that is being read: a letter, and then letters, digits and underscores
pub data Begun : List ℕ → Type 0 where
  begun_word : {c : ℕ} {cs : List ℕ} → is_letter c ≡ true → all_in_word cs ≡ true → Begun (c ∷ cs)

-- one byte more
in_word_more : (cs : List ℕ) (c : ℕ) → all_in_word cs ≡ true → in_word c ≡ true → all_in_word (cs ++ (c ∷ [])) ≡ true
unfolding all_in_word
in_word_more [] c a e = both_true (in_word c) true e refl
in_word_more (d ∷ cs) c a e = both_true (in_word d) _ (both_left (in_word d) (all_in_word cs) a) (in_word_more cs c (both_right (in_word d) (all_in_word cs) a) e)

-- the word goes on
pub begun_more : {w : List ℕ} (c : ℕ) → Begun w → in_word c ≡ true → Begun (w ++ (c ∷ []))
begun_more c (begun_word {cs = cs} a b) e = begun_word a (in_word_more cs c b e)

-- its first letter
pub begun_first : (c : ℕ) → is_letter c ≡ true → Begun (c ∷ [])
unfolding all_in_word
begun_first c e = begun_word e refl

-- letters are bytes
letter_byte : (c : ℕ) → is_letter c ≡ true → c < 256
letter_byte c e = let high = leb-true c 0x7a (both_right (leb 0x61 c) (leb c 0x7a) e) in omega arith

-- so is every byte of a word
in_word_byte : (c : ℕ) → in_word c ≡ true → c < 256
in_word_byte c e = go (is_letter c) refl (is_digit c) refl e
  where
    go : (a : Bool) → is_letter c ≡ a → (b : Bool) → is_digit c ≡ b → (a || (b || eqb c 0x5f)) ≡ true → c < 256
    go true h b i e = letter_byte c h
    go false h true i e = let high = leb-true c 0x39 (both_right (leb 0x30 c) (leb c 0x39) i) in omega arith
    go false h false i e = let same = eqb-true c 0x5f e in omega arith

-- so are all of them
word_bytes : (cs : List ℕ) → all_in_word cs ≡ true → IsBytes cs
unfolding all_in_word
word_bytes [] e = no_bytes
word_bytes (c ∷ cs) e = byte_before (in_word_byte c (both_left (in_word c) (all_in_word cs) e)) (word_bytes cs (both_right (in_word c) (all_in_word cs) e))

-- a word that is being read is bytes
begun_bytes : {w : List ℕ} → Begun w → IsBytes w
begun_bytes (begun_word {c = c} {cs = cs} a b) = byte_before (letter_byte c a) (word_bytes cs b)

-- a word that is no keyword is a name
begun_name : {w : List ℕ} → Begun w → keyword_in keywords w ≡ none → is_name w ≡ true
unfolding is_name no_keyword
begun_name (begun_word {c = c} {cs = cs} a b) e = both_true (is_letter c) _ a (both_true (all_in_word cs) _ b (rw e))

-- ---- Tokens

-- a token whose strings are bytes, at most 255
abbrev pub GoodToken : Token → Type 0
GoodToken t = Good ShortText t

-- of at most 255 bytes, or malformed
short_token : (w : List ℕ) (t : Token) → (length w ≤ 255 → GoodToken t) → GoodToken (up_to255 w t)
short_token w t f = go (leb (length w) 255) refl
  where
    go : (b : Bool) → leb (length w) 255 ≡ b → GoodToken (pick b t (mark 6))
    go true e = f (leb-true (length w) 255 e)
    go false e = omega arith

-- what is known of a word that ends and is no keyword
word_ended : {w : List ℕ} → Begun w → length w ≤ 255 → keyword_in keywords w ≡ none → Word ShortText w
word_ended v l e = record { known = record { bytes = begun_bytes v; short = l }; spelled = begun_name v e }

-- a word that ends is good
pub word_good : {w : List ℕ} → Begun w → GoodToken (word_token w)
unfolding word_token
word_good {w} v = short_token w _ (λ l. go l (keyword_in keywords w) refl)
  where
    go : length w ≤ 255 → (o : Option ℕ) → keyword_in keywords w ≡ o → GoodToken (word_or w o)
    go l none e = word_ended v l e
    go l (some k) e = keyword_kind keywords w k refl e

-- so is a token with a name
pub name_good : {w : List ℕ} (t : Token) → Begun w → (Word ShortText w → GoodToken t) → GoodToken (name_token w t)
unfolding name_token
name_good {w} t v f = short_token w _ (λ l. go l (keyword_in keywords w) refl)
  where
    go : length w ≤ 255 → (o : Option ℕ) → keyword_in keywords w ≡ o → GoodToken (if_no_keyword o t)
    go l none e = f (word_ended v l e)
    go l (some k) e = omega arith

-- a number, or a malformed one
number_picked : (b : Bool) (z : ℤ) → GoodToken (pick b (number z) (mark 6))
number_picked true z = tt
number_picked false z = omega arith

-- numbers are good
pub number_good : (s : Bool) (n : ℕ) → GoodToken (signed_token s n)
unfolding signed_token
number_good false n = number_picked (leb n 9223372036854775807) (pos n)
number_good true zero = tt
number_good true (suc n) = number_picked (leb n 9223372036854775807) (negsuc n)

-- so are strings
pub text_good : {s : List ℕ} → IsBytes s → GoodToken (text_token s)
unfolding text_token
text_good {s} v = short_token s (text s) (λ l. record { bytes = v; short = l })
