-- How tokens end, by their places: before a byte, at the end of the text, or malformed.
use Prim.Native.Nat.{ℕ, suc, ◌+◌, ◌-◌, ◌≤◌, ◌<◌}
use mathlib.Core.Path.{◌≡◌, refl, sym, ap, ◌∙◌}
use mathlib.Core.Bool.{Bool, true, false}
use mathlib.Core.List.{List, [], ◌∷◌, ◌++◌}
use native.Mathlib.Omega.{arith}
use native.Mathlib.Numerals.{add-one}
use lib.Dec.{ltb}
use lib.ListN.{length, get_or, drop}
use lib.Seq.{drop-cons, slice, slice-cons}
use borrow.Author.Tests.{ltb-true, ltb-false}
use Rattle.notation.specs.Tokens.{Token, mark, malformed, Lexeme, lexeme}
use Rattle.notation.specs.Lexing.{is_letter, in_word, Mode, between, Read, reads, with, fails, begins, step_byte, the_end, not_whole, finish, line_behind, lex}
use Rattle.notation.proofs.Lexing.{lex_step, Gathers, letter_no_feed}
use Rattle.lexer.specs.Scanned.{WordRun}
use Rattle.lexer.specs.Found.{lex_from, tokens_from, Begins}
use Rattle.lexer.proofs.Scanning.{at_the_end, stepped_on, run_gathered}

-- ---- Before a byte

-- a token has ended, and the byte begins something
pub resumed_at : (c : ℕ) (cs : List ℕ) (m : Mode) (p l : ℕ) (x : Lexeme) (o : Bool) → step_byte m p l c ≡ with x (begins o p l c) → lex (c ∷ cs) m p l ≡ x ∷ lex (c ∷ cs) (between o) p l
unfolding lex step_byte
resumed_at c cs m p l x o h = rw (lex, h) (go (begins o p l c))
  where
    go : (r : Read) → ◌≡◌ {A = List Lexeme} (elim (with x r) as (λ r. List Lexeme) [ reads xs n ↦ xs ++ lex cs n (suc p) (line_behind c l) ]) (x ∷ elim r as (λ r. List Lexeme) [ reads xs n ↦ xs ++ lex cs n (suc p) (line_behind c l) ])
    go (reads xs n) = refl

-- the token x has ended, at a byte or at the end of the text
pub token_ends : (t : List ℕ) (e : ℕ) (m : Mode) (l : ℕ) (x : Lexeme) (o : Bool) → (e < length t → step_byte m e l (get_or t e 0) ≡ with x (begins o e l (get_or t e 0))) → finish m e l ≡ x ∷ the_end e l
    → lex_from t e l m ≡ x ∷ tokens_from t e l o
unfolding finish
token_ends t e m l x o f g = go (ltb e (length t)) refl
  where
    go : (b : Bool) → ltb e (length t) ≡ b → lex_from t e l m ≡ x ∷ tokens_from t e l o
    go true i = let j = ltb-true e (length t) i in rw (drop-cons t e 0 j) (resumed_at (get_or t e 0) (drop (suc e) t) m e l x o (f j))
    go false i = let j = ltb-false e (length t) i in at_the_end t e m l j ∙ g ∙ ap (λ (xs : List Lexeme). x ∷ xs) (sym (at_the_end t e (between o) l j))

-- a token ends with a byte other than a line feed
pub token_closed : (t : List ℕ) (i : ℕ) (m : Mode) (l : ℕ) (x : Lexeme) (o : Bool) → i < length t → step_byte m i l (get_or t i 0) ≡ reads (x ∷ []) (between o) → line_behind (get_or t i 0) l ≡ l → lex_from t i l m ≡ x ∷ tokens_from t (i + 1) l o
token_closed t i m l x o h e f = rw (add-one, drop-cons t i 0 h) (lex_step (get_or t i 0) (drop (suc i) t) m i l (x ∷ []) (between o) e ∙ rw f)

-- ---- Malformed pieces

-- what is malformed behind the same tokens is malformed
pub begins_behind : {x : Lexeme} {xs ys : List Lexeme} → xs ≡ ys → Begins x ys → Begins x xs
begins_behind e b = record { rest = b.rest; begins = e ∙ b.begins }

-- the first token is malformed
pub begins_token : {p l : ℕ} {a b : Token} {xs rest : List Lexeme} → xs ≡ lexeme p l a ∷ rest → a ≡ b → Begins (lexeme p l b) xs
begins_token {rest = rest} e h = record { rest = rest; begins = e ∙ rw h }

-- the byte breaks off the token that began at p on line k
pub broken_here : (t : List ℕ) (i : ℕ) (m : Mode) (l p k : ℕ) → i < length t → step_byte m i l (get_or t i 0) ≡ fails p k → Begins (lexeme p k (mark malformed)) (lex_from t i l m)
broken_here t i m l p k h e = record {
  rest = lex_from t (suc i) (line_behind (get_or t i 0) l) Mode.broken;
  begins = rw (drop-cons t i 0 h) (lex_step (get_or t i 0) (drop (suc i) t) m i l (lexeme p k (mark malformed) ∷ []) Mode.broken e);
}

-- or the text ends in it
pub breaks_off : (t : List ℕ) (i : ℕ) (m : Mode) (l p k : ℕ) → (i < length t → step_byte m i l (get_or t i 0) ≡ fails p k) → finish m i l ≡ not_whole p k → Begins (lexeme p k (mark malformed)) (lex_from t i l m)
breaks_off t i m l p k f g = go (ltb i (length t)) refl
  where
    go : (b : Bool) → ltb i (length t) ≡ b → Begins (lexeme p k (mark malformed)) (lex_from t i l m)
    go true j = let h = ltb-true i (length t) j in broken_here t i m l p k h (f h)
    go false j = record { rest = []; begins = at_the_end t i m l (ltb-false i (length t) j) ∙ g }

-- ---- Names

-- a letter in front of a run belongs to it
pub with_letter : (t : List ℕ) (a b e : ℕ) → a + 1 ≡ b → is_letter (get_or t a 0) ≡ true → WordRun t b e → WordRun t a e
with_letter t a b e h letter run = record {
  low = omega (arith, run.low);
  high = run.high;
  inside = λ i low high. go i low high (ltb a i) refl;
  stops = run.stops;
}
  where
    go : (i : ℕ) → a ≤ i → i < e → (s : Bool) → ltb a i ≡ s → in_word (get_or t i 0) ≡ true
    go i low high true j = let k = ltb-true a i j in run.inside i (omega arith) high
    go i low high false j =
        let k = ltb-false a i j in
        let same : i ≡ a = omega arith in
        rw (same, letter)

-- a letter at a, from the mode n in which it begins a name, and the bytes of the name up to e
pub name_read : (M : List ℕ → Mode) → Gathers M → (n : Mode) (t : List ℕ) (a b e l : ℕ) → ((c : ℕ) → is_letter c ≡ true → step_byte n a l c ≡ reads [] (M (c ∷ []))) → a + 1 ≡ b → is_letter (get_or t a 0) ≡ true → WordRun t b e
    → lex_from t a l n ≡ lex_from t e l (M (slice a e t))
name_read M g n t a b e l f h letter run =
    let c = get_or t a 0 in
    let from : slice a e t ≡ c ∷ slice (a + 1) e t = slice-cons a e t 0 (omega (arith, run.low)) run.high ∙ rw add-one in
    stepped_on t a n (M (c ∷ [])) l (omega (arith, run.low, run.high)) (f c letter) (letter_no_feed c letter)
    ∙ run_gathered M g t e (e - (a + 1)) (a + 1) (omega (arith, run.low)) run.high (λ i low high. run.inside i (omega arith) high) (c ∷ []) l
    ∙ rw from
