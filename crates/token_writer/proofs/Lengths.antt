-- How much one token adds: a caller's pen stays ready for as many tokens as a manifest has. Assumes nothing.
use mathlib.Core.Bool.{Bool, true, false}
use mathlib.Core.List.{List, [], ◌∷◌, ◌++◌}
use Prim.Native.Nat.{ℕ, suc, ◌+◌, ◌-◌, ◌≤◌, ◌<◌}
use native.Mathlib.Omega.{arith}
use lib.Dec.{eqb}
use lib.ListN.{length, length-append}
use mir.Syntax.{w64}
use mir.Val.{SFits}
use Rattle.rules.specs.Bytes.{pick}
use Rattle.values.proofs.Parts.{in_range_lem}
use Rattle.values.proofs.Digits.{signed_short}
use Rattle.notation.specs.Tokens.{Token, word, number, text, variable, top_variable, class_variable, mark, kind, is_among, two_equals, arrow, equals, left_brace, left_round, left_square, right_brace, right_round, right_square}
use Rattle.notation.specs.Lexing.{signs, keywords}
use Rattle.notation.specs.Layout.{escaped_all, sign_of, keyword_of, mark_spelling, spelling, brackets_behind}
use Rattle.token_writer.specs.declared.Pen.{Pen}
use Rattle.token_writer.specs.Pens.{gap_for, token_bytes, Ready, Put}
use Rattle.token_writer.proofs.WhiteSpace.{gap_short}
use Rattle.token_writer.proofs.Strings.{escaped_short}

-- ---- Spellings

sign_short : (xs : List (ℕ × ℕ)) (k : ℕ) → length (sign_of xs k) ≤ 1
unfolding sign_of
sign_short [] k = omega arith
sign_short (x ∷ xs) k = go (eqb k x.1) (sign_short xs k)
  where
    go : (b : Bool) → length (sign_of xs k) ≤ 1 → length (pick b (x.0 ∷ []) (sign_of xs k)) ≤ 1
    go true h = omega arith
    go false h = h

-- all keywords together
unfoldable together : List (List ℕ × ℕ) → ℕ
together [] = 0
together (x ∷ xs) = length x.0 + together xs

keyword_short : (xs : List (List ℕ × ℕ)) (k : ℕ) → length (keyword_of xs k) ≤ together xs
unfolding keyword_of together
keyword_short [] k = omega arith
keyword_short (x ∷ xs) k = go (eqb k x.1) (keyword_short xs k)
  where
    go : (b : Bool) → length (keyword_of xs k) ≤ together xs → length (pick b x.0 (keyword_of xs k)) ≤ length x.0 + together xs
    go true h = omega arith
    go false h = omega (arith, h)

pub mark_short : (k : ℕ) → length (mark_spelling k) ≤ 62
unfolding mark_spelling together
mark_short k = go (eqb k two_equals) (eqb k arrow) (eqb k equals)
  where
    go : (a b c : Bool) → length (pick a (0x3d ∷ 0x3d ∷ []) (pick b (0x3d ∷ 0x3e ∷ []) (pick c (0x3d ∷ []) (sign_of signs k ++ keyword_of keywords k)))) ≤ 62
    go true b c = omega arith
    go false true c = omega arith
    go false false true = omega arith
    go false false false = omega (arith, length-append (sign_of signs k) (keyword_of keywords k), sign_short signs k, keyword_short keywords k)

-- what a token holds is short enough to be written
abbrev pub Short : Token → Type 0
Short (word n) = length n ≤ 65535
Short (number z) = SFits w64 z
Short (text s) = length s ≤ 65535
Short (variable n) = length n ≤ 65535
Short (top_variable n) = length n ≤ 65535
Short (class_variable c n) = (length c ≤ 65535) × (length n ≤ 65535)
Short (mark k) = Unit

pub spelling_short : (t : Token) → Short t → length (spelling t) ≤ 131075
unfolding spelling
spelling_short (word n) h = omega (arith, h)
spelling_short (number z) h = omega (arith, signed_short z (in_range_lem z h))
spelling_short (text s) h = omega (arith, h, escaped_short s, length-append (escaped_all s) (0x27 ∷ []))
spelling_short (variable n) h = omega (arith, h)
spelling_short (top_variable n) h = omega (arith, h)
spelling_short (class_variable c n) (h, l) = omega (arith, h, l, length-append c (0x3a ∷ 0x3a ∷ n))
spelling_short (mark k) h = omega (arith, mark_short k)

-- ---- The pen behind a token

brackets_more : (k n : ℕ) → brackets_behind k n ≤ n + 1
unfolding brackets_behind
brackets_more k n = go (is_among k (left_brace ∷ left_round ∷ left_square ∷ [])) (is_among k (right_brace ∷ right_round ∷ right_square ∷ []))
  where
    go : (a b : Bool) → pick a (suc n) (pick b (n - 1) n) ≤ n + 1
    go true b = omega arith
    go false true = omega arith
    go false false = omega arith

-- a token takes at most 262,400 bytes and opens at most one bracket
pub token_adds : {a b : List ℕ} {pen pen' : Pen} {w : ℕ} {t : Token} → Ready pen → w < 256 → Short t → Put a b pen pen' w t → (pen'.fill ≤ pen.fill + 262400) × (pen'.brackets ≤ pen.brackets + 1)
unfolding token_bytes
token_adds {a} {b} {pen} {pen'} {w} {t} ready low short put =
    let space : length (gap_for pen (kind t) w) ≤ 131325 = gap_short pen (kind t) w ready.brackets low in
    let size : length (gap_for pen (kind t) w ++ spelling t) ≤ 262400 = omega (arith, length-append (gap_for pen (kind t) w) (spelling t), space, spelling_short t short) in
    (omega (arith, put.bytes.filled, size), omega (arith, put.behind.brackets, brackets_more (kind t) pen.brackets))
