-- A token written, or passed over because the text is too long.
use Prim.Native.Nat.{ℕ, zero, suc, ◌+◌, ◌-◌, ◌≤◌, ◌<◌}
use mathlib.Core.Path.{◌≡◌, refl, sym, ap, ◌∙◌, subst}
use mathlib.Core.Bool.{Bool, true, false, ◌||◌}
use mathlib.Core.List.{List, [], ◌∷◌, ◌++◌}
use native.Mathlib.Omega.{arith}
use lib.Dec.{ltb, eqb}
use lib.ListN.{length, drop, length-append, length-take, length-drop}
use borrow.Author.Tests.{ltb-true, ltb-false, lt-ltb, le-ltb, eqb-true, ne_eqb}
use Rattle.rules.specs.Bytes.{pick, two}
use Rattle.rules.specs.Check.{text, string_places}
use Rattle.rules.specs.Compile.{string_at}
use Rattle.rules.proofs.Within.{false_not_true}
use Rattle.syntax.specs.Strings.{texts_at, string_texts}
use Rattle.notation.specs.Tokens.{Token, a_word, a_text, a_variable, word, number, text as quoted, variable, top_variable, class_variable, mark, kind, Lexeme, is_among, left_brace, left_round, left_square, right_brace, right_round, right_square}
use Rattle.notation.specs.Layout.{sign_of, keyword_of, spelling, mark_spelling, brackets_behind}
use Rattle.notation.specs.Print.{at, Rest}
use Rattle.token_writer.specs.declared.Pen.{Pen}
use Rattle.token_writer.specs.Pens.{gap_for, token_bytes, text_from, Ready, Put, Halfway}
use Rattle.token_writer.proofs.Chains.{one_more}
use Rattle.statement_printer.specs.Passing.{is_full, Going, writing, full, Passes}
use Rattle.statement_printer.specs.Holding.{holding}

-- ---- The test

module _ (pen : Pen) where
  pub long_full : 65535 < pen.fill → true ≡ is_full pen
  unfolding is_full
  long_full h = rw (lt-ltb 65535 pen.fill h)

  pub brackets_full : pen.fill ≤ 65535 → ltb 65535 pen.brackets ≡ is_full pen
  unfolding is_full
  brackets_full h = rw (le-ltb 65535 pen.fill h)

  -- a pen that is not full can write
  pub not_full : is_full pen ≡ false → Ready pen
  unfolding is_full
  not_full e = go (ltb 65535 pen.fill) refl (ltb 65535 pen.brackets) refl e
    where
      go : (a : Bool) → ltb 65535 pen.fill ≡ a → (b : Bool) → ltb 65535 pen.brackets ≡ b → (a || b) ≡ false → Ready pen
      go true ea b eb h = absurd (false_not_true (sym h))
      go false ea true eb h = absurd (false_not_true (sym h))
      go false ea false eb h = record { fill = omega (arith, ltb-false 65535 pen.fill ea); brackets = omega (arith, ltb-false 65535 pen.brackets eb) }

  -- with no more brackets than bytes, a full pen has written too much
  full_long : is_full pen ≡ true → pen.brackets ≤ pen.fill → 65535 < pen.fill
  unfolding is_full
  full_long e l = go (ltb 65535 pen.fill) refl (ltb 65535 pen.brackets) refl e
    where
      go : (a : Bool) → ltb 65535 pen.fill ≡ a → (b : Bool) → ltb 65535 pen.brackets ≡ b → (a || b) ≡ true → 65535 < pen.fill
      go true ea b eb h = ltb-true 65535 pen.fill ea
      go false ea true eb h = omega (arith, ltb-true 65535 pen.brackets eb)
      go false ea false eb h = absurd (false_not_true h)

-- where the pen is full, the text is too long, whatever is to come
pub too_long_lem : {out₀ out : List ℕ} {pen : Pen} {whole : List ℕ} {xs : List Lexeme} → is_full pen ≡ true → Going out₀ out pen whole xs → 65535 < length whole
too_long_lem e (full f l) = l
too_long_lem {pen = pen} {whole = whole} {xs = xs} e (writing b h) =
    let size : length (h.done ++ text_from pen xs) ≡ length whole = ap length h.rest in
    omega (arith, full_long pen e b, h.wrote.filled, size, length-append h.done (text_from pen xs))

-- so a full pen stays as it is
pub stays_full : {out : List ℕ} {pen : Pen} {form : Rest → List Lexeme} → is_full pen ≡ true → Passes out out pen pen form
stays_full e = record { goes = λ o w r g. full e (too_long_lem e g) }

-- ---- A token

-- a token that opens a bracket takes a byte
opening : (k n : ℕ) → brackets_behind k n ≤ n + length (mark_spelling k)
unfolding brackets_behind mark_spelling sign_of keyword_of
opening k n = go (eqb k left_brace) refl (eqb k left_round) refl (eqb k left_square) refl
  where
    same : {j : ℕ} → k ≡ j → brackets_behind j n ≤ n + length (mark_spelling j) → brackets_behind k n ≤ n + length (mark_spelling k)
    same e h = subst (λ (x : ℕ). brackets_behind x n ≤ n + length (mark_spelling x)) (sym e) h

    closing : (b : Bool) → pick b (n - 1) n ≤ n
    closing true = omega arith
    closing false = omega arith

    go : (a : Bool) → eqb k left_brace ≡ a → (b : Bool) → eqb k left_round ≡ b → (c : Bool) → eqb k left_square ≡ c → brackets_behind k n ≤ n + length (mark_spelling k)
    go true ea b eb c ec = same (eqb-true k left_brace ea) (omega arith)
    go false ea true eb c ec = same (eqb-true k left_round eb) (omega arith)
    go false ea false eb true ec = same (eqb-true k left_square ec) (omega arith)
    go false ea false eb false ec =
        let stays : brackets_behind k n ≡ pick (is_among k (right_brace ∷ right_round ∷ right_square ∷ [])) (n - 1) n = rw (ea, eb, ec) in
        omega (arith, stays, closing (is_among k (right_brace ∷ right_round ∷ right_square ∷ [])))

pub opening_token : (t : Token) (n : ℕ) → brackets_behind (kind t) n ≤ n + length (spelling t)
unfolding spelling brackets_behind
opening_token (word w) n = omega arith
opening_token (number z) n = omega arith
opening_token (quoted s) n = omega arith
opening_token (variable s) n = omega arith
opening_token (top_variable s) n = omega arith
opening_token (class_variable c s) n = omega arith
opening_token (mark k) n = opening k n

-- a token is written
pub token_passes : (t : Token) {a b : List ℕ} {pen pen' : Pen} {w : ℕ} → is_full pen ≡ false → Put a b pen pen' w t → Passes a b pen pen' (λ rest. at w t ∷ rest w)
unfolding token_bytes
token_passes t {a} {b} {pen} {pen'} {w} e put = record { goes = λ o v r g. go o v r g }
  where
    go : (out₀ whole : List ℕ) (rest : Rest) → Going out₀ a pen whole (at w t ∷ rest w) → Going out₀ b pen' whole (rest pen'.line)
    go o v r (full f l) = absurd (false_not_true (sym e ∙ f))
    go o v r (writing l h) =
        writing
        (omega (arith, l, put.bytes.filled, put.behind.brackets, opening_token t pen.brackets, length-append (gap_for pen (kind t) w) (spelling t)))
        (subst (λ (u : ℕ). Halfway o b pen' v (r u)) (sym put.behind.line) (one_more h put))

-- ---- Strings

texts_short : (m : List ℕ) (ps : List ℕ) (n : ℕ) → length (string_at (texts_at m ps) n) ≤ length m
unfolding string_at texts_at text
texts_short m [] n = omega arith
texts_short m (p ∷ ps) zero = omega (arith, length-take (two m (p + 1)) (drop (p + 3) m), length-drop (p + 3) m)
texts_short m (p ∷ ps) (suc n) = texts_short m ps n

-- a string of a manifest is no longer than the manifest
pub string_short : (m : List ℕ) (n : ℕ) {s : List ℕ} → s ≡ string_at (string_texts m) n → length m ≤ 65535 → length s ≤ 65535
unfolding string_texts
string_short m n e h = omega (arith, ap length e, texts_short m (string_places m) n)

-- the same by what the test gave
pub stays : {out : List ℕ} {pen : Pen} {form : Rest → List Lexeme} {b : Bool} → b ≡ is_full pen → b ≡ true → Passes out out pen pen form
stays e h = stays_full (sym e ∙ h)

pub ready : {pen : Pen} {b : Bool} → b ≡ is_full pen → b ≡ false → Ready pen
ready {pen} e h = not_full pen (sym e ∙ h)

pub writes : (t : Token) {a b : List ℕ} {pen pen' : Pen} {w : ℕ} {x : Bool} → x ≡ is_full pen → x ≡ false → Put a b pen pen' w t → Passes a b pen pen' (λ rest. at w t ∷ rest w)
writes t e h put = token_passes t (sym e ∙ h) put

-- the same of a token that is known by another name
pub writes_as : {t : Token} (t' : Token) {a b : List ℕ} {pen pen' : Pen} {w : ℕ} {x : Bool} → t ≡ t' → x ≡ is_full pen → x ≡ false → Put a b pen pen' w t → Passes a b pen pen' (λ rest. at w t' ∷ rest w)
writes_as t' {a} {b} {pen} {pen'} {w} same e h put = writes t' e h (subst (λ (y : Token). Put a b pen pen' w y) same put)

-- ---- A token that holds one string

module _ {a b : List ℕ} {pen pen' : Pen} {w k : ℕ} (s : List ℕ) where
  pub puts_word : k ≡ a_word → Put a b pen pen' w (word s) → Put a b pen pen' w (holding k s)
  puts_word e put = rw e put

  pub puts_text : k ≡ a_text → Put a b pen pen' w (quoted s) → Put a b pen pen' w (holding k s)
  puts_text e put = rw e put

  pub puts_variable : k ≡ a_variable → Put a b pen pen' w (variable s) → Put a b pen pen' w (holding k s)
  puts_variable e put = rw e put

  pub puts_top_variable : (k ≡ a_word → ⊥) → (k ≡ a_text → ⊥) → (k ≡ a_variable → ⊥) → Put a b pen pen' w (top_variable s) → Put a b pen pen' w (holding k s)
  puts_top_variable n0 n2 n3 put = rw (ne_eqb k a_word n0, ne_eqb k a_text n2, ne_eqb k a_variable n3) put

pub writes_holding : (k : ℕ) {s u : List ℕ} {a b : List ℕ} {pen pen' : Pen} {w : ℕ} {x : Bool} → s ≡ u → x ≡ is_full pen → x ≡ false → Put a b pen pen' w (holding k s) → Passes a b pen pen' (λ rest. at w (holding k u) ∷ rest w)
writes_holding k {u = u} e = writes_as (holding k u) (ap (holding k) e)
